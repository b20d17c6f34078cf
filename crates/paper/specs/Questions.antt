-- 'Questions on a set': what each answers, in terms of the listing. When each says no stands in Refusals.
use Rattle.std.specs.Prelude.{Bool, true, false, cond, not, ◌&&◌, ◌||◌, List, [], ◌∷◌, ◌++◌, map, ℕ, zero, suc, ◌+◌, ◌*◌, ◌/◌, ◌%◌, ◌-◌, eqb, length, get_or}
use Rattle.paper.specs.Lists.{through, up_to, has, same}
use Rattle.paper.specs.Row.{Row, blank}
use Rattle.paper.specs.Records.{Record, Set, empty, unit, at, Head, by_kind, used_of, listing}
use Rattle.paper.specs.Building.{single_record, product_record, union_record}

-- the flag has the place with this index. Place 1 has index 0 and the lowest bit
abbrev pub has_place : ℕ → ℕ → Bool
has_place b zero = eqb (b % 2) 1
has_place b (suc i) = has_place (b / 2) i

-- the flag without that place
abbrev pub without : ℕ → ℕ → ℕ
without b zero = 2 * (b / 2)
without b (suc i) = b % 2 + 2 * without (b / 2) i

-- work for any question: one number a record used
abbrev pub question_work : Head → ℕ
question_work h = h.used

-- count: how many rows are listed
abbrev pub count_of : Head → List Record → ℕ
count_of h table = length (listing h table)

-- row by number: one entry a place, blank at fixed places
abbrev pub row_numbered : Head → List Record → ℕ → Row
row_numbered h table k = get_or (listing h table) k []

-- member: whether the row is listed
abbrev pub is_listed : List Row → Row → Bool
is_listed [] row = false
is_listed (x ∷ xs) row = same x row || is_listed xs row

-- project: 1 for each node that stands at the index in some row, else 0
abbrev pub stands_at : ℕ → ℕ → List Row → Bool
stands_at i n rows = has (map (λ row. get_or row i blank) rows) n

abbrev pub marks_of : Head → List Record → ℕ → List ℕ
marks_of h table place = map (λ n. cond (stands_at (place - 1) n (listing h table)) 1 0) (up_to h.nodes)

-- ---- fix
-- the image of a record when the place with index i is fixed at node n, given the new table so far and the images of the records
-- before it. A single at another node becomes empty, at this node it loses the place; unions and products are made anew. A record
-- without the place is copied by the same rules: its flag stays, and so its operands' images are records
abbrev pub image : ℕ → ℕ → List Record → List Set → Record → List Record × Set
image i n table images r =
    let flag : ℕ = without r.flag i in
    let left : Set = get_or images r.left empty in
    let right : Set = get_or images r.right empty in
    by_kind r.kind
    (cond (has_place r.flag i && not (eqb r.node n)) (table, empty) (single_record r.node flag table))
    (union_record r.node flag left right table)
    (product_record r.node flag left right table)

-- each old record, in order, has one image
abbrev pub image_step : ℕ → ℕ → List Record × List Set → Record → List Record × List Set
image_step i n (table, images) r =
    let (table₁, e) = image i n table images r in
    (table₁, images ++ (e ∷ []))

abbrev pub images_of : ℕ → ℕ → List Record → List Record × List Set
images_of i n records = through (image_step i n) ([], []) records

abbrev pub image_of : List Set → Set → Set
image_of images empty = empty
image_of images unit = unit
image_of images (at i) = get_or images i empty

-- the new set and its records. The place leaves the open places, the others keep their numbers
abbrev pub fixed_set : Head → List Record → ℕ → ℕ → Head × List Record
fixed_set h table place n =
    let (new, images) = images_of (place - 1) n (used_of h table) in (
      record {
        nodes = h.nodes;
        arity = h.arity;
        open_places = without h.open_places (place - 1);
        used = length new;
        set = image_of images h.set;
      },
      new,
    )

-- both operands of a union become unit
abbrev pub is_unit : Set → Bool
is_unit empty = false
is_unit unit = true
is_unit (at i) = false

abbrev pub unit_twice : List Set → List Record → Bool
unit_twice images [] = false
unit_twice images (r ∷ rs) =
    eqb r.kind 2 && (is_unit (get_or images r.left empty) && is_unit (get_or images r.right empty)) || unit_twice images rs
