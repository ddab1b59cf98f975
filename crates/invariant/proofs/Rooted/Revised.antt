-- Documents changed in place: what keeps window, place and number keeps the frame.
use mathlib.Core.Path.{◌≡◌, refl, sym, ◌∙◌, ap}
use mathlib.Core.Logic.{inl, inr}
use mathlib.Core.Bool.{Bool, true, false, cond}
use mathlib.Core.List.{List, map}
use Rattle.std.specs.Prelude.{Some as some}
use Prim.Native.Nat.{suc}
use Rattle.sorted.specs.Table.{In}
use Rattle.sorted.proofs.Revise.{revised, in_map, map_in, find_map}
use Rattle.tables.specs.Rows.{same_document, with_state, with_script}
use Rattle.wim.specs.Nouns.{WindowNumber, DocumentNumber, Script, ScriptState, Window, Document, Input}
use Rattle.wim.specs.Walks.{window_numbered, document_numbered, steps, top_above}
use Rattle.invariant.proofs.Rooted.Stands.{Follows, Framed, Stands}
use Rattle.invariant.proofs.Rooted.Lines.{top-follows}

pub record Steady (g : Document → Document) : Type 0 where
  pub window : (d : Document) → (g d).window ≡ d.window
  pub place : (d : Document) → (g d).place ≡ d.place
  pub number : (d : Document) → (g d).number ≡ d.number

-- the active document stays active too
pub record Calm (g : Document → Document) : Type 0 where
  pub steady : Steady g
  pub active : (d : Document) → (g d).active ≡ d.active

pub calm_same : Calm (λ d. d)
calm_same = record { steady = record { window = λ d. refl; place = λ d. refl; number = λ d. refl }; active = λ d. refl }

pub calm_state : (s : ScriptState) → Calm (with_state s)
calm_state s = record { steady = record { window = λ d. refl; place = λ d. refl; number = λ d. refl }; active = λ d. refl }

pub calm_script : (s : Script) → Calm (with_script s)
calm_script s = record { steady = record { window = λ d. refl; place = λ d. refl; number = λ d. refl }; active = λ d. refl }

-- only the documents that pass a test are changed
module _ (q : Document → Bool) (f : Document → Document) where
  pub steady_where : Steady f → Steady (λ d. cond (q d) (f d) d)
  steady_where s = record { window = λ d. window d (q d); place = λ d. place d (q d); number = λ d. number d (q d) }
    where
      window : (d : Document) (b : Bool) → (cond b (f d) d).window ≡ d.window
      window d true = s.window d
      window d false = refl

      place : (d : Document) (b : Bool) → (cond b (f d) d).place ≡ d.place
      place d true = s.place d
      place d false = refl

      number : (d : Document) (b : Bool) → (cond b (f d) d).number ≡ d.number
      number d true = s.number d
      number d false = refl

  pub calm_where : Calm f → Calm (λ d. cond (q d) (f d) d)
  calm_where c = record { steady = steady_where c.steady; active = λ d. go d (q d) }
    where
      go : (d : Document) (b : Bool) → (cond b (f d) d).active ≡ d.active
      go d true = c.active d
      go d false = refl

pub steady_after : (f g : Document → Document) → Steady f → Steady g → Steady (λ d. f (g d))
steady_after f g s t =
    record {
      window = λ d. s.window (g d) ∙ t.window d;
      place = λ d. s.place (g d) ∙ t.place d;
      number = λ d. s.number (g d) ∙ t.number d;
    }

module _ (ws : List Window) (ds : List Document) (is : List Input) (g : Document → Document) where
  -- documents changed are found as before
  found_revised : Steady g → (n : DocumentNumber) → document_numbered (map g ds) n ≡ revised g (document_numbered ds n)
  unfolding document_numbered
  found_revised s n = find_map g (λ (d : Document). same_document d.number n) (λ d. ap (λ (m : DocumentNumber). same_document m n) (s.number d)) ds

  pub framed_revised : Steady g → Framed ws ds is → Framed ws (map g ds) is
  framed_revised s F =
      record {
        windows-there = λ x i. (let z = in_map g ds x i in let r = F.windows-there z.0 z.1 in (r.0, ap (window_numbered ws) (ap (λ (d : Document). d.window) z.2 ∙ s.window z.0) ∙ r.1));
        documents-there = λ x i. (let z = F.documents-there x i in (g z.0, found x.document z.0 z.1));
        tops-there = λ r i. (let z = F.tops-there r i in (z.0, lines r z.0 z.1));
        places = λ x i. (let z = in_map g ds x i in behind x z.0 z.2 (F.places z.0 z.1));
        arrivals = F.arrivals;
      }
    where
      found : (n : DocumentNumber) (d : Document) → document_numbered ds n ≡ some d → document_numbered (map g ds) n ≡ some (g d)
      found n d e = found_revised s n ∙ ap (revised g) e

      lines : (r : Window) (t : WindowNumber) → top_above steps ws ds r.number ≡ some t → top_above steps ws (map g ds) r.number ≡ some t
      lines r t = top-follows ws ws ds (map g ds) (λ v. Unit {0}) (λ v y p f. f) (λ v y n d p f h e. (g d, found n d e, s.window d, tt)) steps r.number t tt

      behind : (x d : Document) → x ≡ g d → Follows ds d
          → Follows (map g ds) x
      behind x d e (inl p) = inl (ap (λ (y : Document). y.place) e ∙ s.place d ∙ p)
      behind x d e (inr z) =
          inr (
            g z.0,
            map_in g ds z.0 z.1,
            s.window z.0 ∙ z.2 ∙ sym (ap (λ (y : Document). y.window) e ∙ s.window d),
            ap suc (s.place z.0) ∙ z.3 ∙ sym (ap (λ (y : Document). y.place) e ∙ s.place d),
          )

  -- where after the change again one document of each window is active
  pub stands_revised : Steady g → Stands ws ds is
      → ((d : Document) → In d ds → (e : Document) × In e ds × (e.window ≡ d.window) × ((g e).active ≡ true))
      → ((d e : Document) → In d ds → In e ds → d.window ≡ e.window → (g d).active ≡ true → (g e).active ≡ true → d ≡ e) → Stands ws (map g ds) is
  stands_revised s S one only =
      record {
        framed = framed_revised s S.framed;
        one-active = λ x i. (let z = in_map g ds x i in let e = one z.0 z.1 in (g e.0, map_in g ds e.0 e.1, s.window e.0 ∙ e.2 ∙ sym (win x z.0 z.2), e.3));
        only_active = λ x y i j p a b. (let z = in_map g ds x i in let u = in_map g ds y j in
            z.2 ∙ ap g (only z.0 u.0 z.1 u.1 (sym (win x z.0 z.2) ∙ p ∙ win y u.0 u.2) (sym (act x z.0 z.2) ∙ a) (sym (act y u.0 u.2) ∙ b)) ∙ sym u.2);
      }
    where
      win : (x d : Document) → x ≡ g d → x.window ≡ d.window
      win x d e = ap (λ (y : Document). y.window) e ∙ s.window d

      act : (x d : Document) → x ≡ g d → x.active ≡ (g d).active
      act x d e = ap (λ (y : Document). y.active) e

  pub stands_calm : Calm g → Stands ws ds is → Stands ws (map g ds) is
  stands_calm c S =
      stands_revised c.steady S (λ d i. (let z = S.one-active d i in (z.0, z.1, z.2, c.active z.0 ∙ z.3)))
      (λ d e i j p a b. S.only_active d e i j p (sym (c.active d) ∙ a) (sym (c.active e) ∙ b))
