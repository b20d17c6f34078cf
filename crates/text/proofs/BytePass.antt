-- The pass over the bytes of a text gives the image of the tree that the text writes, and none if it writes none.
-- First bytes against tokens, then the whole text.
use mathlib.Core.Path.{◌≡◌, refl, sym, ◌∙◌}
use mathlib.Core.Bool.{Bool, true, false, cond}
use mathlib.Core.List.{List, [], ◌∷◌}
use mathlib.Core.Option.{Option, none, some, map}
use Prim.Native.Nat.{ℕ, ◌+◌, ◌*◌}
use lib.Dec.{eqb}
use Rattle.paper.specs.BracketedText.{Token, number, opening, closing}
use Rattle.paper.specs.Image.{image_bytes}
use Rattle.writings.specs.ReadText.{Symbol, is_blank, is_line_end, is_mark, is_opening, is_closing, is_wrong, Sign, digit, symbol, sign_of}
use Rattle.writings.specs.ReadText.{Mode, outside, in_number, in_comment, put, fresh, numbered, byte, cut_from, root_of, read_text}
use Rattle.text.specs.Pass.{Kept, nothing_kept, Step, faulty, going, step, refused, reading, within, after_symbol, after_fresh, behind, one_more, after_number, after_byte, image_behind, image_of_text}
use Rattle.text.proofs.TokenPass.{step_on, run, run_faulty, tokens_image}

-- what comes of the tokens, if the bytes are some
abbrev comes_to : Step → Option (List Token) → Option (List ℕ)
comes_to s none = none
comes_to s (some ts) = run s ts

put_comes : (s : Step) (x : Token) (o : Option (List Token)) → comes_to (step_on s x) o ≡ comes_to s (put x o)
put_comes s x none = refl
put_comes s x (some ts) = refl

faulty_comes : (o : Option (List Token)) → comes_to faulty o ≡ none
faulty_comes none = refl
faulty_comes (some ts) = run_faulty ts

-- a refusal stays
pub refused_from : (t : List ℕ) → image_behind refused t ≡ none
refused_from [] = refl
refused_from (b ∷ t) = refused_from t

module _ (t : List ℕ) (k : Mode → Option (List Token))
    (same : (m : Mode) (s : Step) → image_behind (within m s) t ≡ comes_to s (k m)) where
  symbol_same : (x : Symbol) (c : Kept) → image_behind (after_symbol x c) t ≡ comes_to (going c) (fresh (symbol x) k)
  symbol_same is_blank c = same outside (going c)
  symbol_same is_line_end c = same outside (going c)
  symbol_same is_mark c = same in_comment (going c)
  symbol_same is_opening c = same outside (step c opening) ∙ put_comes (going c) opening (k outside)
  symbol_same is_closing c = same outside (step c closing) ∙ put_comes (going c) closing (k outside)
  symbol_same is_wrong c = refused_from t

  fresh_same : (x : Sign) (c : Kept) → image_behind (after_fresh x c) t ≡ comes_to (going c) (fresh x k)
  fresh_same (digit d) c = same (in_number d) (going c)
  fresh_same (symbol x) c = symbol_same x c

  behind_same : (x : Symbol) (s : Step) → image_behind (behind x s) t ≡ comes_to s (fresh (symbol x) k)
  behind_same x faulty = refused_from t ∙ sym (faulty_comes (fresh (symbol x) k))
  behind_same x (going c) = symbol_same x c

  number_same : (n : ℕ) (x : Sign) (c : Kept) → image_behind (after_number n x c) t ≡ comes_to (going c) (numbered n x k)
  number_same n (digit d) c = go (one_more n d)
    where
      go : (p : Bool) → image_behind (cond p (reading (in_number (10 * n + d)) c) refused) t
          ≡ comes_to (going c) (cond p (k (in_number (10 * n + d))) none)
      go true = same (in_number (10 * n + d)) (going c)
      go false = refused_from t
  number_same n (symbol x) c = behind_same x (step c (number n)) ∙ put_comes (going c) (number n) (fresh (symbol x) k)

  byte_same : (b : ℕ) (m : Mode) (c : Kept) → image_behind (after_byte (reading m c) b) t ≡ comes_to (going c) (byte m b k)
  byte_same b outside c = fresh_same (sign_of b) c
  byte_same b (in_number n) c = number_same n (sign_of b) c
  byte_same b in_comment c = same (cond (eqb b 10) outside in_comment) (going c)

  all_same : (b : ℕ) (m : Mode) (s : Step) → image_behind (within m s) (b ∷ t) ≡ comes_to s (byte m b k)
  all_same b m faulty = refused_from t ∙ sym (faulty_comes (byte m b k))
  all_same b m (going c) = byte_same b m c

end_same : (m : Mode) (s : Step) → image_behind (within m s) [] ≡ comes_to s (cut_from m [])
end_same m faulty = sym (faulty_comes (cut_from m []))
end_same outside (going c) = refl
end_same (in_number n) (going c) = refl
end_same in_comment (going c) = refl

bytes_same : (t : List ℕ) (m : Mode) (s : Step) → image_behind (within m s) t ≡ comes_to s (cut_from m t)
bytes_same [] m s = end_same m s
bytes_same (b ∷ t) m s = all_same t (λ m'. cut_from m' t) (bytes_same t) b m s

-- ---- the whole text
pub text_image : (t : List ℕ) → image_of_text t ≡ map image_bytes (read_text t)
text_image t = bytes_same t outside (going nothing_kept) ∙ go (cut_from outside t) refl
  where
    go : (o : Option (List Token)) → cut_from outside t ≡ o → comes_to (going nothing_kept) o ≡ map image_bytes (root_of o)
    go none e = refl
    go (some ts) e = tokens_image ts
