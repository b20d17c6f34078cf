-- Fixing a place, record by record: where no record lists a row twice, the image of each stands for the rows with the node at the
-- place, in order, that place blank. First what an image is to list, then a single, one more record, all of them.
use mathlib.Core.Bool.{Bool, ◌&&◌, ◌||◌, cond, false, not, true, true≢false}
use mathlib.Core.List.Memᴰ
use mathlib.Core.List.{List, [], ◌++◌, ◌∷◌, append_assoc, append-nil}
use mathlib.Core.Logic.{⊎_elim}
use mathlib.Core.Path.{◌∙◌, ◌≡◌, ap, refl, subst, subst₂, sym}
use Prim.Native.Nat.{◌+◌, ◌<◌, ◌^◌, ◌≤◌, ℕ}
use native.Mathlib.Omega.{arith}
use lib.Bits.{bit_and}
use lib.Dec.{eqb}
use lib.ListN.{get_or-append, get_or, length, length-append, set}
use lib.Seq.{get_or-append_seam}
use Rattle.paper.specs.Building.{product_record, single_record, union_record}
use Rattle.paper.specs.Lists.{Once, through}
use Rattle.paper.specs.Questions.{has_place, image, image_step, images_of, without}
use Rattle.paper.specs.Records.{listings, record_rows}
use Rattle.paper.specs.Row.{Row, blank, products, single_row}
use Rattle.paper.specs.Sound.{entry}
use Rattle.laws.specs.Fixings.{picked}
use Rattle.laws.specs.Plain.{Record, Set, empty}
use Rattle.laws.specs.QuestionCauses.{IsProduct, IsSingle, IsUnion, SoundAt}
use Rattle.laws.proofs.Bits.{bit_one, bit_sum, without_apart, without_lt, without_same, without_sum}
use Rattle.laws.proofs.Listings.{get_d_listings, get_d_pushed}
use Rattle.laws.proofs.Picks.{once_picked, picked_append, picked_left, picked_right}
use Rattle.laws.proofs.Shaped.{Shaped, kind_product, kind_single, kind_union, last_or, left_rows, product_rows, right_rows, shape_new, shaped_push, single_rows, union_rows}
use Rattle.laws.proofs.Shapes.{ShapeBelow, entry_blank, entry_node, set_single, single_at}
use Rattle.laws.proofs.SoundRecords.{SoundFrom}
use Rattle.laws.proofs.Stands.{Extends, Makes, OnceFrom, Stands, entry_new, entry_old, extends_refl, extends_trans, later, product_stands, single_stands, union_stands}

module _ (k N : ℕ) (few : N ≤ 4095) (p n : ℕ) (hp : p < k) where
  -- what the image of a record of flag b is to list: with the place the picked rows, without it all
  abbrev pub wanted : ℕ → List Row → List Row
  wanted b rows = cond (has_place b p) (picked p n rows) rows

  pub wanted_append : (b : ℕ) (xs ys : List Row) → wanted b (xs ++ ys) ≡ wanted b xs ++ wanted b ys
  wanted_append b xs ys = go (has_place b p)
    where
      go : (c : Bool) → cond c (picked p n (xs ++ ys)) (xs ++ ys) ≡ cond c (picked p n xs) xs ++ cond c (picked p n ys) ys
      go true = picked_append p n xs ys
      go false = refl

  -- the place is in one factor at most
  wanted_products : (b c : ℕ) (xs ys : List Row) → bit_and b c ≡ 0 → ShapeBelow N k b xs → ShapeBelow N k c ys
      → wanted (b + c) (products xs ys) ≡ products (wanted b xs) (wanted c ys)
  wanted_products b c xs ys h hx hy =
      ap (λ (z : Bool). cond z (picked p n (products xs ys)) (products xs ys)) (bit_sum p b c h)
      ∙ go (has_place b p) refl (has_place c p) refl
    where
      go : (d : Bool) → has_place b p ≡ d → (e : Bool) → has_place c p ≡ e
          → cond (d || e) (picked p n (products xs ys)) (products xs ys) ≡ products (cond d (picked p n xs) xs) (cond e (picked p n ys) ys)
      go true f true g = absurd (true≢false (sym g ∙ bit_one p b c h f))
      go true f false g =
          picked_left p n k xs ys
          (λ x m. ((hx x m).0, entry_node k b p x (hx x m).0 (hx x m).1 hp f))
          (λ y m. ((hy y m).0, entry_blank k c p y (hy y m).0 (hy y m).1 hp g))
      go false f true g =
          picked_right p n k xs ys
          (λ x m. ((hx x m).0, entry_blank k b p x (hx x m).0 (hx x m).1 hp f))
          (λ y m. (hy y m).0)
      go false f false g = refl

  pub wanted_once : (b : ℕ) (rows : List Row) → ShapeBelow N k b rows → Once rows → Once (wanted b rows)
  wanted_once b rows h o = go (has_place b p)
    where
      go : (c : Bool) → Once (cond c (picked p n rows) rows)
      go true = once_picked p n k rows hp (λ row m. (h row m).0) o
      go false = o

  -- ---- a single of node m: empty where the place is there and m is not the node, else without the place
  abbrev single_image : ℕ → ℕ → List Record → List Record × Set
  single_image m b s = cond (has_place b p && not (eqb m n)) (s, empty) (single_record m (without b p) s)

  single_image_lem : (m b : ℕ) → b < 2 ^ k → m < N → (s : List Record)
      → Makes k N (without b p) s (single_image m b s) (wanted b (single_row k m b ∷ []))
  single_image_lem m b hb hm s = go (has_place b p) refl (eqb m n) refl
    where
      there : has_place b p ≡ true → get_or (single_row k m b) p blank ≡ m
      there f = single_at k m b p hp ∙ rw f refl

      new : Makes k N (without b p) s (single_record m (without b p) s) (single_row k m (without b p) ∷ [])
      new = single_stands k N few m (without b p) s hm (without_lt k p b hb)

      copied : has_place b p ≡ false → Makes k N (without b p) s (single_record m (without b p) s) (single_row k m b ∷ [])
      copied f =
          subst (λ (c : ℕ). Makes k N (without b p) s (single_record m (without b p) s) (single_row k m c ∷ [])) (without_same p b f) new

      go : (c : Bool) → has_place b p ≡ c → (d : Bool) → eqb m n ≡ d
          → Makes k N (without b p) s (cond (c && not d) (s, empty) (single_record m (without b p) s))
          (cond c (picked p n (single_row k m b ∷ [])) (single_row k m b ∷ []))
      go true f true g =
          let e : picked p n (single_row k m b ∷ []) ≡ single_row k m (without b p) ∷ [] =
          ap (λ (z : ℕ). cond (eqb z n) (set (single_row k m b) p blank ∷ []) []) (there f)
          ∙ rw g (ap {B = List Row} (λ z. z ∷ []) (set_single k m b p)) in
          subst (Makes k N (without b p) s (single_record m (without b p) s)) (sym e) new
      go true f false g =
          let e : picked p n (single_row k m b ∷ []) ≡ [] =
          ap (λ (z : ℕ). cond (eqb z n) (set (single_row k m b) p blank ∷ []) []) (there f) ∙ rw g refl in
          subst (Makes k N (without b p) s (s, empty)) (sym e) (
            extends_refl k N s,
            record { lists = refl; valid = refl; shape = λ row w. absurd (Memᴰ.not-nil w); once = tt },
          )
      go false f true g = copied f
      go false f false g = copied f

  -- ---- one more record
  -- the images of the records before, and the new table so far
  pub record Images (before table : List Record) (images : List Set) : Type 0 where
    pub number : length images ≡ length before
    pub grown : Extends k N [] table
    pub stand : (i : ℕ) → i < length before
        → Stands k (without (entry before i).flag p) table (get_or images i empty) (wanted (entry before i).flag (get_or (listings k before) i []))

  module _ (before table : List Record) (images : List Set) (r : Record) (h : SoundAt k N before (length before) r)
      (s : Shaped k N few before) (I : Images before table images) (o : Once (record_rows k (listings k before) r)) where
    abbrev b : ℕ
    b = r.flag

    abbrev L : List Row
    L = left_rows k (listings k before) r

    abbrev T : List Row
    T = right_rows k (listings k before) r

    abbrev x : Set
    x = get_or images r.left empty

    abbrev y : Set
    y = get_or images r.right empty

    abbrev united : List Record × Set
    united = union_record r.node (without b p) x y table

    abbrev multiplied : List Record × Set
    multiplied = product_record r.node (without b p) x y table

    abbrev Stood : Type 0
    Stood = Makes k N (without b p) table (image p n table images r) (wanted b (record_rows k (listings k before) r))

    abbrev Right : List Record × Set → List Row → Type 0
    Right z rows = Makes k N (without b p) table z (wanted b rows)

    single_case : IsSingle r → Stood
    single_case e =
        subst₂ Right (sym (kind_single r.kind (single_image r.node b table) united multiplied e.0))
        (sym (single_rows k (listings k before) r e.0))
        (single_image_lem r.node b h.flag_below h.node table)

    union_case : IsUnion before (length before) r → Stood
    union_case e =
        let left = subst (λ (c : ℕ). Stands k (without c p) table x (wanted c L)) e.3 (I.stand r.left e.1) in
        let right = subst (λ (c : ℕ). Stands k (without c p) table y (wanted c T)) e.4 (I.stand r.right e.2) in
        let both : Once (wanted b L ++ wanted b T) =
        subst Once (ap (wanted b) (union_rows k (listings k before) r e.0) ∙ wanted_append b L T)
        (wanted_once b (record_rows k (listings k before) r) (shape_new k N few before r h s) o) in
        subst₂ Right (sym (kind_union r.kind (single_image r.node b table) united multiplied e.0))
        (sym (union_rows k (listings k before) r e.0))
        (subst (Makes k N (without b p) table united) (sym (wanted_append b L T))
        (union_stands k N few r.node (without b p) table x y (wanted b L) (wanted b T) h.node both left right))

    product_case : IsProduct before (length before) r → Stood
    product_case e =
        let bl = (entry before r.left).flag in
        let br = (entry before r.right).flag in
        let flags : without bl p + without br p ≡ without b p = sym (without_sum p bl br e.3) ∙ ap (λ (c : ℕ). without c p) e.4 in
        let rows : products (wanted bl L) (wanted br T) ≡ wanted b (products L T) =
        sym (wanted_products bl br L T e.3 (s r.left e.1) (s r.right e.2)) ∙ ap (λ (c : ℕ). wanted c (products L T)) e.4 in
        subst₂ Right (sym (kind_product r.kind (single_image r.node b table) united multiplied e.0))
        (sym (product_rows k (listings k before) r e.0))
        (subst (Makes k N (without b p) table multiplied) rows
        (subst (λ (c : ℕ). Makes k N c table (product_record r.node c x y table) (products (wanted bl L) (wanted br T))) flags
        (product_stands k N few r.node (without bl p) (without br p) table x y (wanted bl L) (wanted br T) h.node
        (without_apart p bl br e.3) (I.stand r.left e.1) (I.stand r.right e.2))))

    -- the image of a record stands for what it is to list
    image_stands : Stood
    image_stands = ⊎_elim single_case (⊎_elim union_case product_case) h.kind

    abbrev new : List Record × Set
    new = image p n table images r

    abbrev longer : List Record
    longer = before ++ (r ∷ [])

    abbrev more_images : List Set
    more_images = images ++ (new.1 ∷ [])

    abbrev StandsAt : ℕ → Type 0
    StandsAt i =
        Stands k (without (entry longer i).flag p) new.0 (get_or more_images i empty)
        (wanted (entry longer i).flag (get_or (listings k longer) i []))

    old_stands : (i : ℕ) → i < length before → StandsAt i
    old_stands i w =
        subst (λ (u : Record). Stands k (without u.flag p) new.0 (get_or more_images i empty) (wanted u.flag (get_or (listings k longer) i [])))
        (sym (entry_old before (r ∷ []) i w))
        (subst₂ (λ (u : Set) (rows : List Row). Stands k (without (entry before i).flag p) new.0 u (wanted (entry before i).flag rows))
        (sym (get_or-append images (new.1 ∷ []) empty i (omega (arith, I.number)))) (sym (get_d_listings k before (r ∷ []) i w))
        (later k N (without (entry before i).flag p) table new.0 (get_or images i empty)
        (wanted (entry before i).flag (get_or (listings k before) i [])) image_stands.0 (I.stand i w)))

    new_image : get_or more_images (length before) empty ≡ new.1
    new_image = ap (λ (j : ℕ). get_or more_images j empty) (sym I.number) ∙ get_or-append_seam images new.1 [] empty

    last_stands : StandsAt (length before)
    last_stands =
        subst (λ (u : Record). Stands k (without u.flag p) new.0 (get_or more_images (length before) empty)
        (wanted u.flag (get_or (listings k longer) (length before) []))) (sym (entry_new before r))
        (subst₂ (λ (u : Set) (rows : List Row). Stands k (without b p) new.0 u (wanted b rows))
        (sym new_image) (sym (get_d_pushed k before r)) image_stands.1)

    images_step : Images longer new.0 more_images
    images_step = record {
      number = omega (arith, length-append images (new.1 ∷ []), length-append before (r ∷ []), I.number);
      grown = extends_trans k N [] table new.0 I.grown image_stands.0;
      stand = λ i hi. ⊎_elim (old_stands i) (λ e. subst StandsAt (sym e) last_stands)
          (last_or i (length before) (omega (arith, length-append before (r ∷ []), hi)));
    }

  -- ---- all records
  images_from : (rest before table : List Record) (images : List Set) → SoundFrom k N before rest → OnceFrom k before rest
      → Shaped k N few before → Images before table images
      → Images (before ++ rest) (through (image_step p n) (table, images) rest).0 (through (image_step p n) (table, images) rest).1
  images_from [] before table images f o s I = subst (λ (u : List Record). Images u table images) (sym (append-nil before)) I
  images_from (r ∷ rest) before table images f o s I =
      let z = image_step p n (table, images) r in
      subst (λ (u : List Record). Images u (through (image_step p n) z rest).0 (through (image_step p n) z rest).1)
      (append_assoc before (r ∷ []) rest)
      (images_from rest (before ++ (r ∷ [])) z.0 z.1 f.1 o.1 (shaped_push k N few before r f.0 s)
      (images_step before table images r f.0 s I o.0))

  -- the images of a sound table, none of whose records lists a row twice
  pub images_stand : (table : List Record) → SoundFrom k N [] table → OnceFrom k [] table
      → Images table (images_of p n table).0 (images_of p n table).1
  images_stand table f o =
      images_from table [] [] [] f o (λ i w. absurd (omega arith))
      (record { number = refl; grown = extends_refl k N []; stand = λ i w. absurd (omega arith) })
