-- Where the records stand in the input. First the records that bytes make and the numbers of a body, then the places of one input
-- and their order, then the tree's records and the query's, then how many subtrees are unjoined.
use mathlib.Core.Bool.{Bool, ◌||◌, false, true, true≢false}
use mathlib.Core.List.Memᴰ
use mathlib.Core.List.{List, [], ◌++◌, ◌∷◌, append_assoc, head-eq_of_cons-eq, nil≢cons, tail-eq_of_cons-eq}
use mathlib.Core.Logic.{◌⊎◌, inl, inr, ⊎_elim}
use mathlib.Core.Path.{◌∙◌, ◌≡◌, ap, refl, subst, sym}
use Prim.Native.Nat.{◌+◌, ◌<◌, ◌≤◌, suc, zero, ℕ}
use native.Mathlib.Omega.{arith}
use borrow.Author.Tests.{eqb-false, eqb-true, leb-true}
use lib.Dec.{eqb, leb}
use lib.ListN.{drop, drop_of_length-le, get_or, length, length-append, length-drop, length-take, take, take-append-drop}
use lib.Seq.{drop_at, drop-cons, length-take-le, take_at}
use Rattle.paper.specs.Lists.{through}
use Rattle.paper.specs.Stream.{StreamRecord, body_length, behind, is_tree_kind, query_records, records_of, records_within, tree_records, whole}
use Rattle.paper.specs.Tree.{Tree, grow, join, unjoined}
use Rattle.laws.specs.StreamCauses.{AllTree, Begins, TreeEnds, TreeKind, of_kind, written}
use Rattle.laws.proofs.Lists.{here, only, through_append}
use Rattle.laws.proofs.Stands.{later}

-- ---- the records that bytes make
-- the record that stands first: its kind, and as much of its body as there is
abbrev pub first_record : ℕ → List ℕ → StreamRecord
first_record k bytes = record { kind = k; body = take (body_length k) bytes }

-- the bound on their number does not matter where it is as long as the bytes
enough : (n m : ℕ) (bytes : List ℕ) → length bytes ≤ n → length bytes ≤ m → records_within n bytes ≡ records_within m bytes
enough zero zero bytes g h = refl
enough zero (suc m) [] g h = refl
enough zero (suc m) (k ∷ bytes) g h = absurd (omega arith)
enough (suc n) zero [] g h = refl
enough (suc n) zero (k ∷ bytes) g h = absurd (omega arith)
enough (suc n) (suc m) [] g h = refl
enough (suc n) (suc m) (k ∷ bytes) g h =
    ap {B = List StreamRecord} (λ rs. first_record k bytes ∷ rs)
    (enough n m (drop (body_length k) bytes) (simp length-drop (omega arith)) (simp length-drop (omega arith)))

pub records_within_lem : (n : ℕ) (bytes : List ℕ) → length bytes ≤ n → records_within n bytes ≡ records_of bytes
records_within_lem n bytes h = enough n (length bytes) bytes h (omega arith)

-- the first record, then those of the bytes after it
pub records_cons : (k : ℕ) (bytes : List ℕ) → records_of (k ∷ bytes) ≡ first_record k bytes ∷ records_of (drop (body_length k) bytes)
records_cons k bytes =
    ap {B = List StreamRecord} (λ rs. first_record k bytes ∷ rs)
    (records_within_lem (length bytes) (drop (body_length k) bytes) (simp length-drop (omega arith)))

-- a record that is not whole is cut
pub cut : (k : ℕ) (more : List ℕ) → whole (first_record k more) ≡ false → length more < body_length k
cut k more e = let h : length (take (body_length k) more) ≡ body_length k → ⊥ = eqb-false _ _ e in omega (arith, length-take (body_length k) more)

pub not_cut : (k : ℕ) (more : List ℕ) → whole (first_record k more) ≡ true → body_length k ≤ length more
not_cut k more e = omega (arith, eqb-true (length (take (body_length k) more)) (body_length k) e, length-take (body_length k) more)

-- ---- the numbers of a body
-- n numbers of the list from index i, then the rest
abbrev pub numbers_from : ℕ → ℕ → List ℕ → List ℕ → List ℕ
numbers_from i zero xs rest = rest
numbers_from i (suc n) xs rest = get_or xs i 0 ∷ numbers_from (suc i) n xs rest

numbers_from_lem : (i n : ℕ) (xs : List ℕ) → i + n ≤ length xs → drop i xs ≡ numbers_from i n xs (drop (i + n) xs)
numbers_from_lem i zero xs h = ap (λ j. drop j xs) (let z : i ≡ i + 0 = omega arith in z)
numbers_from_lem i (suc n) xs h =
    drop-cons xs i 0 (omega arith)
    ∙ ap {B = List ℕ} (λ z. get_or xs i 0 ∷ z)
    (numbers_from_lem (suc i) n xs (omega arith) ∙ ap (λ j. numbers_from (suc i) n xs (drop j xs)) (let z : suc i + n ≡ i + suc n = omega arith in z))

-- a list begins with its first n numbers, and is them if it has no more
pub begins_with : (n : ℕ) (xs : List ℕ) → n ≤ length xs → xs ≡ numbers_from 0 n xs (drop n xs)
begins_with n xs h = numbers_from_lem 0 n xs (omega arith) ∙ ap (λ j. numbers_from 0 n xs (drop j xs)) (let z : 0 + n ≡ n = omega arith in z)

pub made_of : (n : ℕ) (xs : List ℕ) → length xs ≡ n → xs ≡ numbers_from 0 n xs []
made_of n xs h = begins_with n xs (omega arith) ∙ ap (numbers_from 0 n xs) (drop_of_length-le xs {i = n} (omega arith))

-- ---- places
-- at the start of the input
pub place_here : (input : List ℕ) → Begins input [] input
place_here input = record { split = refl; whole = λ r m. absurd (Memᴰ.not-nil m) }

pub first_whole : (k : ℕ) (bytes : List ℕ) → body_length k ≤ length bytes → length (first_record k bytes).body ≡ body_length k
first_whole k bytes h = length-take-le (body_length k) bytes h

-- the first record of a place is the one that stands first, and the rest is a place in what follows it
pub place_first : {k : ℕ} {bytes : List ℕ} {r : StreamRecord} {later : List StreamRecord} {rest : List ℕ}
    → Begins (k ∷ bytes) (r ∷ later) rest → (r ≡ first_record k bytes) × Begins (drop (body_length k) bytes) later rest
place_first {k} {bytes} {r} {later} {rest} b =
    (λ i. record { kind = kind i; body = body i }, record { split = follows; whole = λ s m. b.whole s (Memᴰ.tail m) })
  where
    kind : r.kind ≡ k
    kind = sym (head-eq_of_cons-eq b.split)

    bytes_are : bytes ≡ r.body ++ (written later ++ rest)
    bytes_are = tail-eq_of_cons-eq b.split ∙ append_assoc r.body (written later) rest

    long : length r.body ≡ body_length k
    long = b.whole r here ∙ ap body_length kind

    body : r.body ≡ take (body_length k) bytes
    body = sym (ap (take (body_length k)) bytes_are ∙ take_at r.body (written later ++ rest) (body_length k) long)

    follows : drop (body_length k) bytes ≡ written later ++ rest
    follows = ap (drop (body_length k)) bytes_are ∙ drop_at r.body (written later ++ rest) (body_length k) long

-- written back, the first record and what follows it
pub written_first : (k : ℕ) (bytes : List ℕ) (later : List StreamRecord) (rest : List ℕ) → drop (body_length k) bytes ≡ written later ++ rest
    → k ∷ bytes ≡ written (first_record k bytes ∷ later) ++ rest
written_first k bytes later rest e =
    ap {B = List ℕ} (λ z. k ∷ z)
    (sym (take-append-drop (body_length k) bytes) ∙ ap (λ z. take (body_length k) bytes ++ z) e
    ∙ sym (append_assoc (take (body_length k) bytes) (written later) rest))

-- a place after the first record, if that is whole
pub place_after : {k : ℕ} {bytes : List ℕ} {later : List StreamRecord} {rest : List ℕ} → body_length k ≤ length bytes
    → Begins (drop (body_length k) bytes) later rest → Begins (k ∷ bytes) (first_record k bytes ∷ later) rest
place_after {k} {bytes} {later} {rest} h b = record {
  split = written_first k bytes later rest b.split;
  whole = λ r m. ⊎_elim (λ e. rw e (first_whole k bytes h)) (b.whole r) (Memᴰ.cases_cons m);
}

-- a place stands behind the bytes of the records before it
pub behind_written : (from : ℕ) (records : List StreamRecord) → behind from records ≡ from + length (written records)
behind_written from [] = omega arith
behind_written from (r ∷ rs) =
    omega (arith, behind_written (from + suc (length r.body)) rs, length-append r.body (written rs))

pub behind_append : (from : ℕ) (xs ys : List StreamRecord) → behind from (xs ++ ys) ≡ behind (behind from xs) ys
behind_append from [] ys = refl
behind_append from (x ∷ xs) ys = behind_append (from + suc (length x.body)) xs ys

-- the later of two places in one input
pub record Further (before : List StreamRecord) (bytes : List ℕ) (before' : List StreamRecord) (bytes' : List ℕ) : Type 0 where
  pub between : List StreamRecord
  pub records : before' ≡ before ++ between
  pub follows : bytes ≡ written between ++ bytes'

-- of two places in one input one is the later
pub places_ordered : (input : List ℕ) (before before' : List StreamRecord) (bytes bytes' : List ℕ)
    → Begins input before bytes → Begins input before' bytes' → Further before bytes before' bytes' ⊎ Further before' bytes' before bytes
places_ordered input [] before' bytes bytes' b b' = inl (record { between = before'; records = refl; follows = sym b.split ∙ b'.split })
places_ordered input (r ∷ before) [] bytes bytes' b b' = inr (record { between = r ∷ before; records = refl; follows = sym b'.split ∙ b.split })
places_ordered [] (r ∷ before) (r' ∷ before') bytes bytes' b b' = absurd (nil≢cons b.split)
places_ordered (k ∷ input) (r ∷ before) (r' ∷ before') bytes bytes' b b' =
    let p = place_first b in
    let p' = place_first b' in
    ⊎_elim (λ f. inl (record { between = f.between; records = cc (f.records, p.0, p'.0); follows = f.follows }))
    (λ f. inr (record { between = f.between; records = cc (f.records, p.0, p'.0); follows = f.follows }))
    (places_ordered (drop (body_length k) input) before before' bytes bytes' p.1 p'.1)

-- ---- the tree's records and the query's
pub is_tree_kind_lem : (k : ℕ) → TreeKind k → is_tree_kind k ≡ true
is_tree_kind_lem k (inl e) = rw e refl
is_tree_kind_lem k (inr e) = rw e refl

pub tree_kind : (k : ℕ) → is_tree_kind k ≡ true → TreeKind k
tree_kind k e = go (eqb k 1) refl e
  where
    go : (c : Bool) → eqb k 1 ≡ c → c || eqb k 2 ≡ true → TreeKind k
    go true h e' = inl (eqb-true k 1 h)
    go false h e' = inr (eqb-true k 2 e')

pub no_tree_kind : (k : ℕ) → is_tree_kind k ≡ false → TreeKind k → ⊥
no_tree_kind k e t = true≢false (sym (is_tree_kind_lem k t) ∙ e)

pub all_tree_snoc : (before : List StreamRecord) (r : StreamRecord) → AllTree before → TreeKind r.kind → AllTree (before ++ (r ∷ []))
all_tree_snoc before r a t s m = ⊎_elim (a s) (λ n. subst (λ z. TreeKind z.kind) (sym (only n)) t) (Memᴰ.append_cases before m)

-- tree records at the front are the tree's and none of the query's
pub tree_records_append : (tree rs : List StreamRecord) → AllTree tree → tree_records (tree ++ rs) ≡ tree ++ tree_records rs
tree_records_append [] rs a = refl
tree_records_append (r ∷ tree) rs a =
    rw (is_tree_kind_lem r.kind (a r here)) (ap {B = List StreamRecord} (λ z. r ∷ z) (tree_records_append tree rs (λ s m. a s (Memᴰ.tail m))))

pub query_records_append : (tree rs : List StreamRecord) → AllTree tree → query_records (tree ++ rs) ≡ query_records rs
query_records_append [] rs a = refl
query_records_append (r ∷ tree) rs a = rw (is_tree_kind_lem r.kind (a r here)) (query_records_append tree rs (λ s m. a s (Memᴰ.tail m)))

-- the tree ends before a kind that is none of its own, and with the input
pub tree_ends : (k : ℕ) (more : List ℕ) → is_tree_kind k ≡ false → TreeEnds (k ∷ more)
tree_ends k more e k' more' z t = no_tree_kind k e (subst TreeKind (sym (head-eq_of_cons-eq z)) t)

pub tree_ends_nil : TreeEnds []
tree_ends_nil k more e t = nil≢cons e

-- the records before a place are the tree's and then the query's in one way only
pub one_query : (tree tree' query query' : List StreamRecord) (bytes : List ℕ) → tree ++ query ≡ tree' ++ query' → AllTree tree → AllTree tree'
    → TreeEnds (written query ++ bytes) → TreeEnds (written query' ++ bytes) → query ≡ query'
one_query [] [] query query' bytes e a a' t t' = e
one_query [] (r ∷ tree') query query' bytes e a a' t t' = absurd (rw e at t _ _ refl (a' r here))
one_query (r ∷ tree) [] query query' bytes e a a' t t' = absurd (rw (← e) at t' _ _ refl (a r here))
one_query (r ∷ tree) (r' ∷ tree') query query' bytes e a a' t t' =
    one_query tree tree' query query' bytes (tail-eq_of_cons-eq e) (λ s m. a s (Memᴰ.tail m)) (λ s m. a' s (Memᴰ.tail m)) t t'

-- ---- unjoined subtrees
pub of_kind_append : (k : ℕ) (xs ys : List StreamRecord) → of_kind k (xs ++ ys) ≡ of_kind k xs + of_kind k ys
of_kind_append k [] ys = omega arith
of_kind_append k (x ∷ xs) ys = omega (arith, of_kind_append k xs ys)

-- there are as many as leaves, less the branches
abbrev pub Counted : List StreamRecord → Type 0
Counted before = length (unjoined before) + of_kind 2 before ≡ of_kind 1 before

pub unjoined_snoc : (before : List StreamRecord) (r : StreamRecord) → unjoined (before ++ (r ∷ [])) ≡ (grow (through grow ([], 0) before) r).0
unjoined_snoc before r = ap {B = List Tree} (λ s. s.0) (through_append grow ([], 0) before (r ∷ []))

pub join_length : (label node : ℕ) (ts : List Tree) → 2 ≤ length ts → suc (length (join label node ts)) ≡ length ts
join_length label node [] h = absurd (omega arith)
join_length label node (last ∷ []) h = absurd (omega arith)
join_length label node (last ∷ older ∷ others) h = refl

counted_leaf : (before : List StreamRecord) (r : StreamRecord) → r.kind ≡ 1 → Counted before → Counted (before ++ (r ∷ []))
counted_leaf before r e c =
    let one : of_kind 1 (r ∷ []) ≡ 1 = rw e refl in
    let none : of_kind 2 (r ∷ []) ≡ 0 = rw e refl in
    omega (arith, more, of_kind_append 1 before (r ∷ []), of_kind_append 2 before (r ∷ []))
  where
    more : length (unjoined (before ++ (r ∷ []))) ≡ suc (length (unjoined before))
    more = rw (unjoined_snoc before r, e) refl

counted_branch : (before : List StreamRecord) (r : StreamRecord) → r.kind ≡ 2 → 2 ≤ length (unjoined before) → Counted before
    → Counted (before ++ (r ∷ []))
counted_branch before r e two c =
    let none : of_kind 1 (r ∷ []) ≡ 0 = rw e refl in
    let one : of_kind 2 (r ∷ []) ≡ 1 = rw e refl in
    omega (arith, fewer, of_kind_append 1 before (r ∷ []), of_kind_append 2 before (r ∷ []))
  where
    fewer : suc (length (unjoined (before ++ (r ∷ [])))) ≡ length (unjoined before)
    fewer = rw (unjoined_snoc before r, e) (join_length _ _ (unjoined before) two)

-- a leaf adds one, and a branch that finds two joins them
pub counted_snoc : (before : List StreamRecord) (r : StreamRecord) → TreeKind r.kind
    → eqb r.kind 1 || leb 2 (length (unjoined before)) ≡ true → Counted before → Counted (before ++ (r ∷ []))
counted_snoc before r (inl e) h c = counted_leaf before r e c
counted_snoc before r (inr e) h c = counted_branch before r e (leb-true 2 (length (unjoined before)) (rw e at h)) c
