-- Two steps that are apart own nothing in common, and each part holds what its step needs.
use mathlib.Core.Path.{◌≡◌, sym, ◌∙◌, ap, subst}
use mathlib.Core.Logic.{◌⊎◌, inl, inr}
use mathlib.Core.Bool.{Bool, true, false, not}
use mathlib.Core.List.{List}
use Rattle.std.specs.Prelude.{Option, None as none, Some as some}
use Rattle.sorted.specs.Table.{In}
use Rattle.sorted.proofs.Never.{never}
use Rattle.sorted.proofs.Tests.{or_one, or_left, or_right}
use Rattle.tables.specs.Tables.{Tables}
use Rattle.tables.specs.Labels.{Label, host, among}
use Rattle.shapes.specs.Events.{Message}
use Rattle.wim.specs.Nouns.{WindowNumber, Host, Cookie, Item}
use Rattle.wim.specs.Program.{made, run}
use Rattle.wim.specs.Main.{program}
use Rattle.wim.specs.Step.{fresh_labels}
use Rattle.wim.specs.LocalSteps.{home, top_of_home, stands, hosts}
use Rattle.wim.specs.Invariant.{Numbered}
use Rattle.invariant.proofs.Numbered.Fresh.{Absent, in_among}
use Rattle.invariant.proofs.Rooted.Tests.{fails}
use Rattle.either_order.specs.Statement.{Apart}
use Rattle.either_order.proofs.Part.{Part, sees}
use Rattle.either_order.proofs.Keeps.{Owns}
use Rattle.either_order.proofs.Commute.{side}
use Rattle.either_order.proofs.Listed.{among_in, host_in, in_hosts}
use Rattle.either_order.proofs.Colour.{Colour, colourless, beneath, hosted, top_colour, top_of_label, colour}
use Rattle.either_order.proofs.Owned.{ours, ours_at, owned, window-is, is-window}
use Rattle.either_order.proofs.Seeds.{sought, Seeds}
use Rattle.either_order.proofs.Admitted.{no-host-fresh}
use Rattle.either_order.proofs.Known.{coloured, home-named, sought_named, home_colour}
use Rattle.either_order.proofs.Mine.{Mine, found_mine, sought_mine}

-- what an item owns in a browser
abbrev pub owned_by : Item → Tables → Label → Bool
owned_by i b = owned b (stands i.event b) (hosts i.event b) (fresh_labels i.fresh)

abbrev pub New : Item → Tables → Type 0
New i b = (l : Label) → In l (fresh_labels i.fresh) → Absent l b

module _ (b : Tables) (i j : Item) (A : Apart i j b) (Ni : New i b) (Nj : New j b) where
  abbrev stᵢ : Option WindowNumber
  stᵢ = stands i.event b

  abbrev stⱼ : Option WindowNumber
  stⱼ = stands j.event b

  abbrev hsᵢ : List Host
  hsᵢ = hosts i.event b

  abbrev hsⱼ : List Host
  hsⱼ = hosts j.event b

  -- no colour is of both
  one_colour : (c : Colour) → ours stᵢ hsᵢ c ≡ true → ours stⱼ hsⱼ c ≡ true → ⊥
  one_colour colourless p q = never (cc)
  one_colour (beneath t) p q = A.tops t (window-is stᵢ t p) (window-is stⱼ t q)
  one_colour (hosted h) p q = A.no-host h (host_in h hsᵢ p) (host_in h hsⱼ q)

  -- a coloured label is brought by nobody
  not_new : (k : Item) → New k b → (l : Label) (st : Option WindowNumber) (hs : List Host) → ours_at b st hs l ≡ true → among l (fresh_labels k.fresh) ≡ true → ⊥
  not_new k N l st hs p q =
      let q' : In l (fresh_labels k.fresh) = among_in l (fresh_labels k.fresh) q in
      let h : l.0 ≡ host = coloured b l.0 l.1 (λ z. let y : ours st hs colourless ≡ true = ap (ours st hs) (sym z) ∙ p in never (cc)) (N l q') in
      no-host-fresh k.fresh l.1 (subst (λ (v : Label). In v (fresh_labels k.fresh)) (λ t. (h t, l.1)) q')

  one_owner : (l : Label) → owned_by i b l ≡ true → owned_by j b l ≡ true → ⊥
  unfolding owned
  one_owner l e f = go (or_one (ours_at b stᵢ hsᵢ l) (among l (fresh_labels i.fresh)) e) (or_one (ours_at b stⱼ hsⱼ l) (among l (fresh_labels j.fresh)) f)
    where
      go : (ours_at b stᵢ hsᵢ l ≡ true) ⊎ (among l (fresh_labels i.fresh) ≡ true) → (ours_at b stⱼ hsⱼ l ≡ true) ⊎ (among l (fresh_labels j.fresh) ≡ true) → ⊥
      go (inl p) (inl q) = one_colour (colour b l.0 l.1) p q
      go (inl p) (inr q) = not_new j Nj l stᵢ hsᵢ p q
      go (inr p) (inl q) = not_new i Ni l stⱼ hsⱼ q p
      go (inr p) (inr q) = A.new-new l (among_in l (fresh_labels i.fresh) p) (among_in l (fresh_labels j.fresh) q)

  pub disjoint : (l : Label) → owned_by i b l ≡ true → owned_by j b l ≡ false
  disjoint l e = fails (owned_by j b l) (λ f. one_owner l e f)

  abbrev Fᵢ : Part
  Fᵢ = side (owned_by i b) (owned_by j b) disjoint

  pub own_fresh : Owns Fᵢ (fresh_labels i.fresh)
  unfolding owned
  own_fresh l k = or_right (ours_at b stᵢ hsᵢ l) (among l (fresh_labels i.fresh)) (in_among l (fresh_labels i.fresh) k)

  -- a label is seen where the other's colours don't have it and the other doesn't bring it
  seen : (l : Label) → (ours_at b stⱼ hsⱼ l ≡ true → ⊥) → (In l (fresh_labels j.fresh) → ⊥) → sees Fᵢ l ≡ true
  unfolding owned
  seen l p q = ap not (fails (owned_by j b l) (λ e. go (or_one (ours_at b stⱼ hsⱼ l) (among l (fresh_labels j.fresh)) e)))
    where
      go : (ours_at b stⱼ hsⱼ l ≡ true) ⊎ (among l (fresh_labels j.fresh) ≡ true) → ⊥
      go (inl e) = p e
      go (inr e) = q (among_in l (fresh_labels j.fresh) e)

  -- THE SEEDS of the first item.
  module _ (N : Numbered b) (new : List Cookie) (c : Tables) (m : Option Message) (acc : run (program i.event new) b (fresh_labels i.fresh) ≡ made c m) where
    pub seeds : Seeds Fᵢ i.event b
    unfolding owned stands colour
    seeds = record {
      home_sees = home_sees';
      home-own = home_own';
      hosts-own = λ h k. or_left (ours_at b stᵢ hsᵢ (host, h.0)) (among (host, h.0) (fresh_labels i.fresh)) (in_hosts h hsᵢ k);
      sought_sees = sought_sees';
      found-own = λ l k. or_left (ours_at b stᵢ hsᵢ l) (among l (fresh_labels i.fresh)) (found_mine b N i.event l k);
    }
      where
        home_sees' : (l : Label) → home i.event b ≡ some l → sees Fᵢ l ≡ true
        home_sees' l h = seen l (λ p. go (top_of_label b l) (ap (top_of_home b) h) (ap (ours stⱼ hsⱼ) (sym (home_colour b l i.event h)) ∙ p)) (λ q. A.named_new l (home-named b l (Nj l q) i.event h) q)
          where
            go : (o : Option WindowNumber) → stᵢ ≡ o → ours stⱼ hsⱼ (top_colour o) ≡ true → ⊥
            go none s p = never (cc)
            go (some t) s p = A.tops t s (window-is stⱼ t p)

        home_own' : (l : Label) (t : WindowNumber) → home i.event b ≡ some l → top_of_label b l ≡ some t → owned_by i b l ≡ true
        home_own' l t h e = or_left (ours_at b stᵢ hsᵢ l) (among l (fresh_labels i.fresh))
            (ap (ours stᵢ hsᵢ) (home_colour b l i.event h ∙ ap top_colour e) ∙ is-window stᵢ t (ap (top_of_home b) h ∙ e))

        sought_sees' : (l : Label) → In l (sought i.event) → sees Fᵢ l ≡ true
        sought_sees' l k = seen l (λ p. go (sought_mine b N i.event new (fresh_labels i.fresh) c m acc l k) p) (λ q. A.named_new l (sought_named i.event l k) q)
          where
            go : Mine i.event b l → ours_at b stⱼ hsⱼ l ≡ true → ⊥
            go (inl z) p = let y : ours stⱼ hsⱼ colourless ≡ true = ap (ours stⱼ hsⱼ) (sym z) ∙ p in never (cc)
            go (inr z) p = one_colour (colour b l.0 l.1) z p
