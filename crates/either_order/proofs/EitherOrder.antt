-- Demand 3: the theorem on tables, then on browsers.
use mathlib.Core.Path.{◌≡◌, refl, sym, ◌∙◌, ap, subst}
use mathlib.Core.Bool.{Bool, true, false, cond}
use Rattle.std.specs.Prelude.{Option}
use Prim.Native.Nat.{◌≤◌}
use native.Mathlib.Omega.{arith}
use lib.ListN.{length}
use Rattle.sorted.specs.Table.{In}
use Rattle.sorted.proofs.Never.{never}
use Rattle.tables.specs.Tables.{windows, Tables}
use Rattle.tables.specs.Labels.{Label}
use Rattle.shapes.specs.Events.{Message}
use Rattle.wim.specs.Nouns.{Event, RunScript, Urlbar, Reload, GoForward, GoBack, CloseCorrupt, EncryptedAnswer, PlainAnswer, DnsResolved, Item, Closed}
use Rattle.wim.specs.Program.{Program, made, run}
use Rattle.wim.specs.Main.{cookies_in, program}
use Rattle.wim.specs.Step.{fresh_labels, fits, step_tables, Browser, declined, accepted, closes, concluded, step}
use Rattle.wim.specs.LocalSteps.{is_local, stands, hosts}
use Rattle.wim.specs.Invariant.{Numbered}
use Rattle.invariant.proofs.Numbered.Fresh.{fresh_absent, admitted}
use Rattle.invariant.proofs.Numbered.Steps.{made-numbered}
use Rattle.invariant.proofs.Opened.{opened, made-tables}
use Rattle.either_order.specs.Statement.{EightFree, LocalStep, Apart, EitherOrder}
use Rattle.either_order.proofs.Part.{Level, Whole}
use Rattle.either_order.proofs.Commute.{side, commute}
use Rattle.either_order.proofs.Owned.{level_owned}
use Rattle.either_order.proofs.Kept.{kept}
use Rattle.either_order.proofs.Admitted.{all_absent, no-host-fresh, sizes-fit, admits}
use Rattle.either_order.proofs.StillFresh.{still_absent}
use Rattle.either_order.proofs.Disjoint.{owned_by, New, disjoint, own_fresh, seeds}

turned : (i j : Item) (b : Tables) → Apart i j b → Apart j i b
turned i j b A = record {
  tops = λ t p q. A.tops t q p;
  no-host = λ h p q. A.no-host h q p;
  new-new = λ l p q. A.new-new l q p;
  new-named = λ l p q. A.named_new l q p;
  named_new = λ l p q. A.new-named l q p;
}

abbrev steps : Item → Program
steps i = program i.event (cookies_in i.cookies)

-- what the first brings is fresh after the second
fresh-after : (b : Tables) → Numbered b → (i j : Item) → LocalStep j → Apart i j b → New i b → (c : Tables) (m : Option Message) → run (steps j) b (fresh_labels j.fresh) ≡ made c m → New i c
fresh-after b N i j Lj A Ni c m e l k =
    still_absent b N.sorted l (Ni l k) (λ h z. no-host-fresh i.fresh h (subst (λ (v : Label). In v (fresh_labels i.fresh)) (sym z) k)) j Lj (λ q. A.new-new l k q) (λ q. A.new-named l k q) c m e

-- THE THEOREM ON TABLES.
pub either_first : (b : Tables) → Numbered b → EightFree b → (i j : Item) → LocalStep i → LocalStep j → Apart i j b
    → (bi bj : Tables) (mi mj : Option Message) → step_tables i b ≡ made bi mi → step_tables j b ≡ made bj mj
    → (c : Tables) × (step_tables j bi ≡ made c mj) × (step_tables i bj ≡ made c mi)
unfolding step_tables
either_first b N free i j Li Lj A bi bj mi mj ei ej =
    let fi = fresh_labels i.fresh in
    let fj = fresh_labels j.fresh in
    let ai = admitted fi b (run (steps i) b fi) bi mi ei in
    let aj = admitted fj b (run (steps j) b fj) bj mj ej in
    let Ni : New i b = fresh_absent b fi ai.1 in
    let Nj : New j b = fresh_absent b fj aj.1 in
    let B : Apart j i b = turned i j b A in
    let few : length (b windows) ≤ 31 = (let z = free windows in omega arith) in
    let Di = disjoint b i j A Ni Nj in
    let Dj = disjoint b j i B Nj Ni in
    let Vi : Level (owned_by i b) b = level_owned b N (stands i.event b) (hosts i.event b) fi Ni few in
    let Vj : Level (owned_by j b) b = level_owned b N (stands j.event b) (hosts j.event b) fj Nj few in
    let Wi : Whole (side (owned_by i b) (owned_by j b) Di) b = record { sorted = N.sorted; owns = Vi; others = Vj } in
    let Wj : Whole (side (owned_by j b) (owned_by i b) Dj) b = record { sorted = N.sorted; owns = Vj; others = Vi } in
    let ki = kept (side (owned_by i b) (owned_by j b) Di) b Wi i.event (cookies_in i.cookies) Li.kind Li.cookies (seeds b i j A Ni Nj N (cookies_in i.cookies) bi mi ai.0) in
    let kj = kept (side (owned_by j b) (owned_by i b) Dj) b Wj j.event (cookies_in j.cookies) Lj.kind Lj.cookies (seeds b j i B Nj Ni N (cookies_in j.cookies) bj mj aj.0) in
    let r = commute (owned_by i b) (owned_by j b) Di Dj b N.sorted Vi Vj (steps i) (steps j) fi fj ki kj (own_fresh b i j A Ni Nj) (own_fresh b j i B Nj Ni) bi bj mi mj ai.0 aj.0 in
    let room : fits r.0 ≡ true = sizes-fit r.0 (λ t. let y = r.3 t in let z = free t in omega arith) in (
      r.0,
      admits fj bi (run (steps j) bi fj) r.0 mj r.1 (all_absent bi fj (fresh-after b N j i Li B Nj bi mi ai.0)) room,
      admits fi bj (run (steps i) bj fi) r.0 mi r.2 (all_absent bj fi (fresh-after b N i j Lj A Ni bj mj aj.0)) room,
    )

-- A STEP OF THE TABLES of an open browser is one of the browser.
pub stepped-on : (i : Item) (b c : Browser) (m : Option Message) → b.closed ≡ false → step_tables i b.tables ≡ made c.tables m → c.closed ≡ closes i.event → step i b ≡ accepted c m
unfolding step
stepped-on i b c m p q r =
    let e : closes i.event ≡ c.closed = sym r in
    ap (λ (x : Bool). cond x (declined Closed) (concluded (closes i.event) (step_tables i b.tables))) p
    ∙ (ap (concluded (closes i.event)) q ∙ (λ k. accepted (record { tables = c.tables; closed = e k }) m))

-- no local step closes
local_open : (e : Event) → is_local e ≡ true → closes e ≡ false
unfolding is_local
local_open (RunScript w out) l = refl
local_open (Urlbar target url) l = refl
local_open (Reload w) l = refl
local_open (GoForward w) l = refl
local_open (GoBack w) l = refl
local_open CloseCorrupt l = never (cc)
local_open (EncryptedAnswer k a) l = refl
local_open (PlainAnswer a) l = refl
local_open (DnsResolved a) l = refl

-- DEMAND 3.
pub either_order : EitherOrder
either_order b R free i j Li Lj A bi bj mi mj ei ej =
    let oi = opened i b bi mi ei in
    let oj = opened j b bj mj ej in
    let ci : closes i.event ≡ false = local_open i.event Li.kind in
    let cj : closes j.event ≡ false = local_open j.event Lj.kind in
    let z = either_first b.tables (made-numbered (made-tables R)) free i j Li Lj A bi.tables bj.tables mi mj oi.1 oj.1 in
    let c : Browser = record { tables = z.0; closed = false } in
    (c, stepped-on j bi c mj (oi.2 ∙ ci) z.1 (sym cj), stepped-on i bj c mi (oj.2 ∙ cj) z.2 (sym ci))
