-- Programs that keep to a part: what they do, and that they do the same in browsers that have the same rows in what they see.
use mathlib.Core.Path.{◌≡◌, refl, sym, ◌∙◌, ap, subst, fun_ext}
use mathlib.Core.Logic.{inl, inr}
use mathlib.Core.Bool.{Bool, true, false, cond, not}
use mathlib.Core.List.{List, [], ◌∷◌, map}
use Rattle.std.specs.Prelude.{Option}
use Prim.Native.Nat.{ℕ, ◌+◌, ◌≤◌}
use native.Mathlib.Omega.{arith}
use lib.Dec.{eqb}
use lib.ListN.{length}
use Rattle.sorted.specs.Table.{In, All}
use Rattle.sorted.proofs.Never.{never}
use Rattle.sorted.proofs.Edits.{adds}
use Rattle.sorted.proofs.Sorted.{only}
use Rattle.sorted.proofs.Equal.{only_acts}
use Rattle.sorted.proofs.Revise.{only_map}
use Rattle.tables.specs.Tables.{Table, Row, Key, key_of, cmp, Tables, Edits, update, changed, apply}
use Rattle.tables.specs.Labels.{Label, code, tag}
use Rattle.tables.proofs.Update.{update-two, linear}
use Rattle.shapes.specs.Events.{Message}
use Rattle.wim.specs.Nouns.{Refusal, NotFresh}
use Rattle.wim.specs.Program.{Query, Observed, observed, Program, ask, edit, revise, bring, refuse, done, Outcome, refused, made, run}
use Rattle.invariant.proofs.Numbered.Fresh.{of_kind}
use Rattle.four_rows.proofs.Adds.{on, longer, as_long}
use Rattle.either_order.proofs.Sight.{Even, restrict, Sees, sound}
use Rattle.either_order.proofs.Part.{Part, sees, Ok, Fixes, level_even, Whole, Moved, whole-moved, moved-self, moved-trans, moved-edit, moved-revise}

-- A PROGRAM KEEPS TO A PART on its way through a browser: it asks for what it may see, changes what it owns, owns the numbers that it
-- brings, and adds at most four rows to a table (`n`: rows added so far, `m`: by this edit).
abbrev pub Keeps : Part → (Table → ℕ) → Program → Tables → Type 0
Keeps F n (ask q k) b = Sees (sees F) q × Keeps F n (k (observed q b)) b
Keeps F n (edit t es p) b = All (Ok F t) es × (m : ℕ) × (adds es ≤ m) × Keeps F (λ u. n u + on t m u) p (apply t es b)
Keeps F n (revise t g p) b = Fixes F t g × Keeps F n p (update t (map g) b)
Keeps F n (bring κ k) b = (x : ℕ) → F.own (κ, x) ≡ true → Keeps F n (k x) b
Keeps F n (refuse r) b = Unit {0}
Keeps F n (done m) b = (t : Table) → n t ≤ 4

abbrev pub Owns : Part → List Label → Type 0
Owns F f = (l : Label) → In l f → F.own l ≡ true

-- WHAT SUCH A PROGRAM DOES.
module _ (F : Part) where
  abbrev Goes : (Table → ℕ) → Tables → Tables → Type 0
  Goes acc b c = Moved F b c × ((t : Table) → length (c t) + acc t ≤ length (b t) + 4)

  pub moves : (p : Program) (acc : Table → ℕ) (b : Tables) (f : List Label) (c : Tables) (m : Option Message) → Keeps F acc p b → Owns F f → Whole F b → run p b f ≡ made c m → Goes acc b c
  unfolding run
  moves (ask q k) acc b f c m h o W e = moves (k (observed q b)) acc b f c m h.1 o W e
  moves (edit t es p) acc b f c m h o W e =
      let v = moved-edit F b W t es h.0 in
      let z = moves p (λ u. acc u + on t h.1 u) (apply t es b) f c m h.3 o (whole-moved F b (apply t es b) W v) e in
      (moved-trans F b (apply t es b) c v z.0, λ u. let x = z.1 u in let y = longer t es b h.1 h.2 u in omega arith)
  moves (revise t g p) acc b f c m h o W e =
      let v = moved-revise F b W t g h.0 in
      let z = moves p acc (update t (map g) b) f c m h.1 o (whole-moved F b (update t (map g) b) W v) e in
      (moved-trans F b (update t (map g) b) c v z.0, λ u. let x = z.1 u in let y = as_long t g b u in omega arith)
  moves (bring κ k) acc b [] c m h o W e = never (cc)
  moves (bring κ k) acc b (l ∷ f) c m h o W e = go (eqb (code κ) (code l.0)) refl e (λ g x. moves (k l.1) acc b f c m (h l.1 g) (λ a i. o a (inr i)) W x)
    where
      go : (t : Bool) → eqb (code κ) (code l.0) ≡ t → cond t (run (k l.1) b f) (refused NotFresh) ≡ made c m → (F.own (κ, l.1) ≡ true → run (k l.1) b f ≡ made c m → Goes acc b c) → Goes acc b c
      go true q x ih = ih (ap F.own (of_kind κ l q) ∙ o l (inl refl)) x
      go false q x ih = never (cc)
  moves (refuse r) acc b f c m h o W e = never (cc)
  moves (done n) acc b [] c m h o W e =
      let z : b ≡ c = cc in
      (subst (Moved F b) z (moved-self F b W), λ t. let u = h t in let v : length (c t) ≡ length (b t) = ap (λ (x : Tables). length (x t)) (sym z) in omega arith)
  moves (done n) acc b (l ∷ f) c m h o W e = never (cc)

-- TWO BROWSERS WITH THE SAME ROWS IN WHAT A PROGRAM SEES: it does the same in both.
abbrev pub AlikeIn : Part → Tables → Tables → Type 0
AlikeIn F b d = (t : Table) → restrict (sees F) b t ≡ restrict (sees F) d t

pub data Alike (F : Part) : Outcome → Outcome → Type 0 where
  both-refused : (r : Refusal) → Alike F (refused r) (refused r)
  both-made : (c d : Tables) (m : Option Message) → AlikeIn F c d → Alike F (made c m) (made d m)

module _ (F : Part) where
  even_sees : (b : Tables) → Whole F b → Even (sees F) b
  even_sees b W t r i a j = ap not (level_even F.other b W.others t r i a j)

  same_answer : (q : Query) (b d : Tables) → Whole F b → Whole F d → AlikeIn F b d → Sees (sees F) q → observed q b ≡ observed q d
  same_answer q b d x y e s = sym (sound (sees F) b (even_sees b x) q s) ∙ (ap (observed q) (fun_ext e) ∙ sound (sees F) d (even_sees d y) q s)

  alike_edit : (t : Table) (es : Edits t) (b d : Tables) → Whole F b → Whole F d → AlikeIn F b d → AlikeIn F (apply t es b) (apply t es d)
  alike_edit t es b d x y e = update-two (λ u l m. only (key_of u) (λ k. sees F (tag u k)) l ≡ only (key_of u) (λ k. sees F (tag u k)) m) t (changed t es) (changed t es) b d e
      (only_acts (key_of t) (cmp t) (linear t) (λ k. sees F (tag t k)) es (b t) (d t) (x.sorted t) (y.sorted t) (e t))

  alike_revise : (t : Table) (g : Row t → Row t) (b d : Tables) → Fixes F t g → AlikeIn F b d → AlikeIn F (update t (map g) b) (update t (map g) d)
  alike_revise t g b d h e = update-two (λ u l m. only (key_of u) (λ k. sees F (tag u k)) l ≡ only (key_of u) (λ k. sees F (tag u k)) m) t (map g) (map g) b d e
      (only_map (key_of t) (cmp t) g keeps p (b t) ∙ (ap (map g) (e t) ∙ sym (only_map (key_of t) (cmp t) g keeps p (d t))))
    where
      p : Key t → Bool
      p k = sees F (tag t k)

      keeps : (r : Row t) → key_of t (g r) ≡ key_of t r
      keeps r = (h r).0.same_key

  whole-edit : (t : Table) (es : Edits t) (b : Tables) → All (Ok F t) es → Whole F b → Whole F (apply t es b)
  whole-edit t es b h W = whole-moved F b (apply t es b) W (moved-edit F b W t es h)

  whole-revise : (t : Table) (g : Row t → Row t) (b : Tables) → Fixes F t g → Whole F b → Whole F (update t (map g) b)
  whole-revise t g b h W = whole-moved F b (update t (map g) b) W (moved-revise F b W t g h)

  pub agree : (p : Program) (acc : Table → ℕ) (b d : Tables) (f : List Label) → Whole F b → Whole F d → AlikeIn F b d → Keeps F acc p b → Owns F f → Alike F (run p b f) (run p d f)
  unfolding run
  agree (ask q k) acc b d f x y e h o =
      subst (λ (a : Observed q). Alike F (run (k (observed q b)) b f) (run (k a) d f)) (same_answer q b d x y e h.0) (agree (k (observed q b)) acc b d f x y e h.1 o)
  agree (edit t es p) acc b d f x y e h o = agree p (λ u. acc u + on t h.1 u) (apply t es b) (apply t es d) f (whole-edit t es b h.0 x) (whole-edit t es d h.0 y) (alike_edit t es b d x y e) h.3 o
  agree (revise t g p) acc b d f x y e h o = agree p acc (update t (map g) b) (update t (map g) d) f (whole-revise t g b h.0 x) (whole-revise t g d h.0 y) (alike_revise t g b d h.0 e) h.1 o
  agree (bring κ k) acc b d [] x y e h o = both-refused NotFresh
  agree (bring κ k) acc b d (l ∷ f) x y e h o = go (eqb (code κ) (code l.0)) refl (λ g. agree (k l.1) acc b d f x y e (h l.1 g) (λ a i. o a (inr i)))
    where
      go : (t : Bool) → eqb (code κ) (code l.0) ≡ t → (F.own (κ, l.1) ≡ true → Alike F (run (k l.1) b f) (run (k l.1) d f))
          → Alike F (cond t (run (k l.1) b f) (refused NotFresh)) (cond t (run (k l.1) d f) (refused NotFresh))
      go true q ih = ih (ap F.own (of_kind κ l q) ∙ o l (inl refl))
      go false q ih = both-refused NotFresh
  agree (refuse r) acc b d f x y e h o = both-refused r
  agree (done m) acc b d [] x y e h o = both-made b d m e
  agree (done m) acc b d (l ∷ f) x y e h o = both-refused NotFresh

  -- and it keeps to the part in both
  pub keeps_alike : (p : Program) (acc : Table → ℕ) (b d : Tables) → Whole F b → Whole F d → AlikeIn F b d → Keeps F acc p b → Keeps F acc p d
  keeps_alike (ask q k) acc b d x y e h =
      (h.0, subst (λ (a : Observed q). Keeps F acc (k a) d) (same_answer q b d x y e h.0) (keeps_alike (k (observed q b)) acc b d x y e h.1))
  keeps_alike (edit t es p) acc b d x y e h =
      (h.0, h.1, h.2, keeps_alike p (λ u. acc u + on t h.1 u) (apply t es b) (apply t es d) (whole-edit t es b h.0 x) (whole-edit t es d h.0 y) (alike_edit t es b d x y e) h.3)
  keeps_alike (revise t g p) acc b d x y e h =
      (h.0, keeps_alike p acc (update t (map g) b) (update t (map g) d) (whole-revise t g b h.0 x) (whole-revise t g d h.0 y) (alike_revise t g b d h.0 e) h.1)
  keeps_alike (bring κ k) acc b d x y e h = λ n g. keeps_alike (k n) acc b d x y e (h n g)
  keeps_alike (refuse r) acc b d x y e h = tt
  keeps_alike (done m) acc b d x y e h = h

  pub made_alike : (o : Outcome) (c : Tables) (m : Option Message) (u : Outcome) → o ≡ made c m → Alike F o u → (d : Tables) × (u ≡ made d m) × AlikeIn F c d
  made_alike (refused r) c m (made _ _) e a = elim a [ ]
  made_alike (refused r) c m (refused s) e a = never (cc)
  made_alike (made x n) c m u e (both-made y d k h) =
      let z : x ≡ c = cc in
      let w : n ≡ m = cc in
      (d, ap (made d) w, subst (λ (v : Tables). AlikeIn F v d) z h)
