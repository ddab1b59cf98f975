-- The method and the origin may stop it; else it is sent.
use Rattle.std.proofs.Common.{[], refl, sym, ◌∙◌, rules}
use Rattle.types.specs.declared.Reference.TheVariants.{Xhr}
use Rattle.tables.specs.Tables.{Tables}
use Rattle.wim.specs.Program.{run}
use Rattle.wim.specs.Sending.{send}
use Rattle.wim.specs.Script.{xhr_sending}
use Rattle.stepping.proofs.Sends.{brings_send}
use Rattle.stepping.proofs.Carry.{carries-none}
use Rattle.script_loads.proofs.Ways.{method_stops, origin_stops, xhr_fetches}
use Rattle.script_loads.proofs.fetching.xhr.Goals as goal
use Rattle.script_loads.proofs.fetching.xhr.Goals.{then-is_forbidden-via-then-is_forbidden, then-is_forbidden-via-else-is_forbidden+then-not-same_origin}

pub returns-then-is_forbidden : goal.returns-then-is_forbidden
returns-then-is_forbidden c = elim c.then-is_forbidden.branch [
  | then-is_forbidden-via-then-is_forbidden w ↦ method_stops c.args.s c.args.url c.args.method c.args.«data» (Xhr c.args.s.document.number c.args.matching) (sym c.is_forbidden.ensures ∙ w.if-is_forbidden.true)
  | then-is_forbidden-via-else-is_forbidden+then-not-same_origin w ↦ origin_stops c.args.s c.args.url c.args.method c.args.«data» (Xhr c.args.s.document.number c.args.matching) (sym c.is_forbidden.ensures ∙ w.if-is_forbidden.false)
      (rw (w.url_origin.ensures, c.origin_of-own.ensures) at (sym w.same_origin.ensures) ∙ w.if-not-same_origin.true)
]

pub returns : goal.returns
unfolding run
returns c = xhr_fetches c.args.s c.args.url c.args.method c.args.«data» (Xhr c.args.s.document.number c.args.matching) (sym c.is_forbidden.ensures ∙ c.if-is_forbidden.false)
    (rw (c.url_origin.ensures, c.origin_of-own.ensures) at (sym c.same_origin.ensures) ∙ c.if-not-same_origin.false)
    (c.load.ensures (send (xhr_sending c.args.s.document c.args.url c.args.method c.args.«data» (Xhr c.args.s.document.number c.args.matching))) record {
      does = λ (b : Tables). b;
      puts = [];
      drops = [];
      brings = brings_send _;
      ran = λ b. rw c.xhr_sending-o.ensures;
      clear = refl;
      carries = λ k l room h. search (rules, carries-none);
    })
