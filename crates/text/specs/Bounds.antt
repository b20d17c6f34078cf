-- The numbers of the pass over a text and of the way back, with why each is so large.
use Rattle.std.specs.Prelude.{ℕ}

-- as many labels may wait as there are written nodes
abbrev pub most_written : ℕ
most_written = 2047

-- an image: two bytes for the branch of each written node, and two for each pad, of which there is one more
abbrev pub longest_image : ℕ
longest_image = 8190

-- a canonical text: two digits for each written node, and two brackets, or one blank instead of these
abbrev pub longest_text : ℕ
longest_text = 8188
