-- What a call is lent, of any kind: a slice that is read, one that is written and lent on, an array of the function's own, or anything that is given
-- away for good. First what the laws of lines use of such an argument (`Lent`), then the kinds. A new kind is one more value of `Lent`, in any crate.
-- Assumes `Logic`.
use types.Logic.{Logic}
use denote.RattleType.{RowLaws}
use denote.Ref.{Bor, MutBor}
use Rattle.walks.proofs.Prelude.{ℕ, Lft, GName, Share, ftrue, flft, Fml, yes, RattleType, slice_val, Room, nothing, full_share}
use Rattle.walks.proofs.Prelude.{Ura, length, List, [], ◌∷◌, ◌≡◌, ◌∙◌, Val, ‵, ◌⊛◌, ◌$◌, !, move, split, fsplit, fjoin, drop, feq_l, use1, Sq, Item}
use base.Fml.{fsep}
use mir.Syntax.{erased}
use mir.Val.{vunit}
use types.Kit.{Go, Goal, Soaks}
use denote.Exit.{Last as LastOf, left}
use denote.Slice.{shr_slice_copy}
use types.Tokens.{lft_new}
use Rattle.walks.proofs.Arrays.{Element, Elements, array_back, array_shown, lends_array, shows_array}
use Rattle.walks.proofs.Lending.{HandedBack, Loan, Mine, Seen, Showable, Showing, Waiting}
use Rattle.walks.proofs.Lending.{has_back, lends as lends_slice, shown_back, shows}

pub record Lent : Type 2 where
  -- what the callee's contract has of it, what it binds at exit, and what is new in each loan
  pub Passed : Type 0
  pub Last : Type 0
  pub Name : Type 0
  pub life : Name → Lft
  pub share : Share
  pub passed : Name → Passed
  pub low : Val
  -- what the function has of it, with its token, before the call and after it
  pub own : Fml
  pub token : Fml
  pub owned : Last → Fml
  -- what the callee is handed, what the function has meanwhile, and what the callee says of the last value
  pub handed : Name → Fml
  pub waits : Name → Fml
  pub settled : Name → Last → Fml
  -- what is known of the last value
  pub Long : Last → Type 0
  pub lends : {M : Type 1} {𝓤 : Ura M} {𝓛 : Logic 𝓤} {Γ : List (Item 𝓤)} {G : Goal 𝓤 𝓛.H} → Go {0} → Soaks G
      → ((n : Name) → Sq 𝓛 (‵ (flft (life n) share) ∷ ‵ (handed n) ∷ ‵ (waits n) ∷ Γ) G) → Sq 𝓛 (‵ (fsep own token) ∷ Γ) G
  pub backs : {M : Type 1} {𝓤 : Ura M} {𝓛 : Logic 𝓤} {Γ : List (Item 𝓤)} {G : Goal 𝓤 𝓛.H} → Go {0} → Soaks G
      → (n : Name) (x : Last) → (Long x → Sq 𝓛 (‵ (fsep (owned x) token) ∷ Γ) G)
      → Sq 𝓛 (‵ (flft (life n) share) ∷ ‵ (settled n x) ∷ ‵ (waits n) ∷ Γ) G

-- ---- slices. A reference is x, as the contract has it
-- a `&[T]`, passed on. What a `&` to a T holds can be had twice
module _ (R : RattleType) (laws : RowLaws R) (κ : Lft) (q : Share) (x : Bor (List R.Denot)) where
  abbrev seen : Fml
  seen = Seen R x.ref_ptr.0 x.ref_ptr.1 κ (length x.now) x.now

  abbrev pub read : Lent
  read = record {
    Passed = Bor (List R.Denot);
    Last = Unit {0};
    Name = Unit {0};
    life = λ _. κ;
    share = q;
    passed = λ _. x;
    low = slice_val x.ref_ptr (length x.now);
    own = seen;
    token = flft κ q;
    owned = λ _. seen;
    handed = λ _. seen;
    waits = λ _. seen;
    settled = λ _ _. ftrue;
    Long = λ _. Unit {0};
    lends = λ {M} {𝓤} {𝓛} t z k.
        fsplit ! $ use1 𝓛 (‵ seen ⊛ ‵ seen) ((shr_slice_copy 𝓛 erased κ R laws).twice x (slice_val x.ref_ptr (length x.now) ∷ [])) $
        split ! $ move ! (2 ∷ []) $ k tt;
    backs = λ t z n w k. move ! (1 ∷ []) $ drop ! $ move ! (1 ∷ 0 ∷ []) $ fjoin ! $ k tt;
  }

module _ (R : RattleType) (κ : Lft) (q : Share) (x : MutBor (List R.Denot)) where
  abbrev mine : Lft → GName → List R.Denot → Fml
  mine κ' γ zs = Mine R x.ref_ptr.0 x.ref_ptr.1 κ' γ (length x.now) zs

  -- a `&mut [T]` that was passed as x and is now at ys, lent for the call
  abbrev pub written : Room R (length x.now) → (ys : List R.Denot) → length ys ≡ length x.now → Lent
  written room ys long = record {
    Passed = MutBor (List R.Denot);
    Last = List R.Denot;
    Name = ℕ × GName;
    life = λ n. n.0 ∷ [];
    share = full_share;
    passed = λ n. record { ref_ptr = x.ref_ptr; ghost_name = n.1; now = ys };
    low = slice_val x.ref_ptr (length x.now);
    own = mine κ x.ghost_name ys;
    token = flft κ q;
    owned = mine κ x.ghost_name;
    handed = λ n. mine (n.0 ∷ []) n.1 ys;
    waits = λ n. fsep (Loan R x.ref_ptr.0 x.ref_ptr.1 n.0 n.1 ys) (Waiting R x.ref_ptr.0 x.ref_ptr.1 κ q x.ghost_name ys);
    settled = λ n zs. HandedBack R x.ref_ptr.0 x.ref_ptr.1 n.0 n.1 ys zs;
    Long = λ zs. length zs ≡ length x.now;
    lends = λ t z k.
        fsplit ! $ lends_slice ! z R x.ref_ptr.0 x.ref_ptr.1 ys (length x.now) long (λ ν δ. move ! (2 ∷ 3 ∷ []) $ fjoin ! $ move ! (1 ∷ 2 ∷ 0 ∷ []) $ k (ν, δ));
    backs = λ t z n zs k. move ! (1 ∷ []) $ fsplit ! $ move ! (1 ∷ []) $ drop ! $ fsplit ! $ move ! (1 ∷ []) $ feq_l ! (λ e.
        move ! (2 ∷ []) $ fsplit ! $ move ! (3 ∷ 2 ∷ 0 ∷ 1 ∷ []) $
        has_back ! z R x.ref_ptr.0 x.ref_ptr.1 ys zs (length x.now) room long (e ∙ long) $ fjoin ! $ k (e ∙ long));
  }

  -- the same, lent as a `&[T]`
  abbrev pub shown : Showable R → Room R (length x.now) → (ys : List R.Denot) → length ys ≡ length x.now → Lent
  shown showable room ys long = record {
    Passed = Bor (List R.Denot);
    Last = Unit {0};
    Name = ℕ;
    life = λ ν. ν ∷ [];
    share = full_share;
    passed = λ _. record { ref_ptr = x.ref_ptr; now = ys };
    low = slice_val x.ref_ptr (length x.now);
    own = mine κ x.ghost_name ys;
    token = flft κ q;
    owned = λ _. mine κ x.ghost_name ys;
    handed = λ ν. Seen R x.ref_ptr.0 x.ref_ptr.1 (ν ∷ []) (length x.now) ys;
    waits = λ ν. fsep (Showing R x.ref_ptr.0 x.ref_ptr.1 ν ys) (Waiting R x.ref_ptr.0 x.ref_ptr.1 κ q x.ghost_name ys);
    settled = λ _ _. ftrue;
    Long = λ _. Unit {0};
    lends = λ t z k.
        fsplit ! $ shows ! z R showable x.ref_ptr.0 x.ref_ptr.1 ys (length x.now) long (λ ν. move ! (2 ∷ 3 ∷ []) $ fjoin ! $ move ! (1 ∷ 2 ∷ 0 ∷ []) $ k ν);
    backs = λ t z n w k. move ! (1 ∷ []) $ drop ! $ move ! (1 ∷ []) $ fsplit ! $ move ! (2 ∷ 0 ∷ 1 ∷ []) $
        shown_back ! z R x.ref_ptr.0 x.ref_ptr.1 ys (length x.now) room long $ fjoin ! $ k tt;
  }

-- ---- an array of the function's own, of n elements in the block b, now at ys. It has no token
module _ (T : Element) (b n : ℕ) (room : Room T.type n) (ys : List T.type.Denot) (long : length ys ≡ n) where
  abbrev slice : GName → MutBor (List T.type.Denot)
  slice γ = record { ref_ptr = (b, 0); ghost_name = γ; now = ys }

  -- lent as a `&mut [T]`
  abbrev pub array : Lent
  array = record {
    Passed = MutBor (List T.type.Denot);
    Last = List T.type.Denot;
    Name = ℕ × GName;
    life = λ m. m.0 ∷ [];
    share = full_share;
    passed = λ m. slice m.1;
    low = slice_val (b, 0) n;
    own = Elements T b ys;
    token = ftrue;
    owned = Elements T b;
    handed = λ m. Mine T.type b 0 (m.0 ∷ []) m.1 n ys;
    waits = λ m. Loan T.type b 0 m.0 m.1 ys;
    settled = λ m zs. HandedBack T.type b 0 m.0 m.1 ys zs;
    Long = λ zs. length zs ≡ n;
    lends = λ t z k. fsplit ! $ move ! (1 ∷ []) $ drop ! $ lends_array ! z T b ys n room long (λ ν δ. k (ν, δ));
    backs = λ t z m zs k. move ! (1 ∷ []) $ fsplit ! $ move ! (1 ∷ []) $ drop ! $ fsplit ! $ move ! (1 ∷ []) $ feq_l ! (λ e.
        move ! (1 ∷ 0 ∷ 2 ∷ []) $ array_back ! z T b ys zs $ nothing ! $ move ! (1 ∷ 0 ∷ []) $ fjoin ! $ k (e ∙ long));
  }

  -- lent as a `&[T]`
  abbrev pub array_read : Lent
  array_read = record {
    Passed = Bor (List T.type.Denot);
    Last = Unit {0};
    Name = ℕ;
    life = λ ν. ν ∷ [];
    share = full_share;
    passed = λ _. record { ref_ptr = (b, 0); now = ys };
    low = slice_val (b, 0) n;
    own = Elements T b ys;
    token = ftrue;
    owned = λ _. Elements T b ys;
    handed = λ ν. Seen T.type b 0 (ν ∷ []) n ys;
    waits = λ ν. Showing T.type b 0 ν ys;
    settled = λ _ _. ftrue;
    Long = λ _. Unit {0};
    lends = λ t z k. fsplit ! $ move ! (1 ∷ []) $ drop ! $ shows_array ! z T b ys n room long (λ ν. k ν);
    backs = λ t z m w k. move ! (1 ∷ []) $ drop ! $ array_shown ! z T b ys $ nothing ! $ move ! (1 ∷ 0 ∷ []) $ fjoin ! $ k tt;
  }

-- ---- a reference of any kind, passed on and not needed again: what the callee says of its last value is all that is left of it
abbrev pub given : (R : RattleType) → Lft → Share → R.Denot → Val → Lent
given R κ q x v = record {
  Passed = R.Denot;
  Last = LastOf (R.exit yes) x;
  Name = Unit {0};
  life = λ _. κ;
  share = q;
  passed = λ _. x;
  low = v;
  own = R.own_val x (v ∷ []);
  token = flft κ q;
  owned = left (R.exit yes) x;
  handed = λ _. R.own_val x (v ∷ []);
  waits = λ _. ftrue;
  settled = λ _. left (R.exit yes) x;
  Long = λ _. Unit {0};
  lends = λ t z k. fsplit ! $ nothing ! $ move ! (2 ∷ 1 ∷ 0 ∷ []) $ k tt;
  backs = λ t z n w k. move ! (2 ∷ []) $ drop ! $ move ! (1 ∷ 0 ∷ []) $ fjoin ! $ k tt;
}

-- ---- what is only kept back (`off`), with its token: what no call is lent again
abbrev pub aside : Fml → Fml → Lent
aside F T = record {
  Passed = Unit {0};
  Last = Unit {0};
  Name = ℕ;
  life = λ n. n ∷ [];
  share = full_share;
  passed = λ _. tt;
  low = vunit;
  own = F;
  token = T;
  owned = λ _. F;
  handed = λ _. ftrue;
  waits = λ _. fsep F T;
  settled = λ _ _. ftrue;
  Long = λ _. Unit {0};
  lends = λ t z k. lft_new ! z (λ ν. nothing ! $ move ! (1 ∷ 0 ∷ []) $ k ν);
  backs = λ t z n x k. drop ! $ drop ! $ k tt;
}

-- what is left of a thing after its last call
abbrev pub spent : (a : Lent) → a.Last → Lent
spent a w = aside (a.owned w) a.token
