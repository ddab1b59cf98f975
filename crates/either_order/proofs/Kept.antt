-- Every local step keeps to its part.
use mathlib.Core.Path.{◌≡◌, refl}
use mathlib.Core.Logic.{inl}
use mathlib.Core.Bool.{true}
use mathlib.Core.List.{List}
use Rattle.std.specs.Prelude.{Some as some}
use Prim.Native.Nat.{◌≤◌}
use lib.ListN.{length}
use Rattle.sorted.proofs.Never.{never}
use Rattle.tables.specs.Tables.{Tables}
use Rattle.tables.specs.Labels.{window, host}
use Rattle.wim.specs.Nouns.{WindowNumber, Url, Cookie, Req, Bare, NewWindow, Existing, Event, RunScript, Urlbar, Reload, GoForward, GoBack, CloseCorrupt, EncryptedAnswer, PlainAnswer, DnsResolved, Document, NoWindow, NoDocument, Unknown}
use Rattle.wim.specs.Walks.{active_among}
use Rattle.wim.specs.Program.{Program, reached, top_level, active, history, observed}
use Rattle.wim.specs.Sending.{send}
use Rattle.wim.specs.History.{document_before, document_after, neighbour, nav_back, nav_forward}
use Rattle.wim.specs.Main.{sending_to, urlbar, displayed, reload, forward, back, program}
use Rattle.wim.specs.LocalSteps.{is_local, home, hosts}
use Rattle.four_rows.proofs.Adds.{four}
use Rattle.four_rows.proofs.Programs.{none_yet}
use Rattle.either_order.proofs.Part.{Part, own_sees, Whole}
use Rattle.either_order.proofs.Keeps.{Keeps}
use Rattle.either_order.proofs.Shared.{kept-needs, kept-unless, kept_send, kept_cancel, kept-moved}
use Rattle.either_order.proofs.Seeds.{Seeds, reached-own, active-host}
use Rattle.either_order.proofs.Scripts.{kept-script}
use Rattle.either_order.proofs.Answers.{kept-resolved, kept_encrypted, kept-plain}

module _ (F : Part) (b : Tables) (W : Whole F b) where
  kept-urlbar : (w : WindowNumber) (url : Url) → Seeds F (Urlbar (Existing w) url) b → Keeps F none_yet (urlbar url (Existing w)) b
  unfolding urlbar home hosts
  kept-urlbar w url S = (
    S.home_sees (window, w.0) refl,
    kept-unless F none_yet b (observed (top_level w) b) NoWindow _ (
      S.home_sees (window, w.0) refl,
      kept-needs F none_yet b NoDocument (observed (active w) b) _ (λ d e.
          kept_send F none_yet (sending_to (Req w) url Unknown) (S.home_sees (window, w.0) refl) (S.hosts-own url.host (inl refl)) (four _ refl) b),
    ),
  )

  -- 31, 38, 41: the window is there, and shows a document
  kept-displayed : (w : WindowNumber) (k : Document → Program) (e : Event) → Seeds F e b → home e b ≡ some (window, w.0)
      → ((d : Document) → observed (active w) b ≡ some d → F.own (window, w.0) ≡ true → Keeps F none_yet (k d) b) → Keeps F none_yet (displayed w k) b
  kept-displayed w k e S h f = (
    S.home_sees (window, w.0) h,
    kept-needs F none_yet b NoWindow (observed (reached w) b) _ (λ top r.
        (S.home_sees (window, w.0) h, kept-needs F none_yet b NoDocument (observed (active w) b) k (λ d s. f d s (reached-own F b W e S w top h r)))),
  )

  kept-reload : (w : WindowNumber) → Seeds F (Reload w) b → Keeps F none_yet (reload w) b
  unfolding reload home hosts
  kept-reload w S = kept-displayed w _ (Reload w) S refl (λ d s ow.
      kept_cancel F none_yet (Bare w) (send (sending_to (Req w) d.location d.referrer)) tt
      (kept_send F _ (sending_to (Req w) d.location d.referrer) (own_sees F (window, w.0) ow) (S.hosts-own d.location.host (active-host d (observed (active w) b) s)) (four _ refl)) b)

  kept_back : (w : WindowNumber) → Seeds F (GoBack w) b → Keeps F none_yet (back w) b
  unfolding back nav_back home
  kept_back w S = kept-displayed w _ (GoBack w) S refl (λ d s ow.
      (own_sees F (window, w.0) ow, kept-moved F w (observed (history w) b) (neighbour document_before (observed (history w) b) (active_among (observed (history w) b))) b ow))

  kept-forward : (w : WindowNumber) → Seeds F (GoForward w) b → Keeps F none_yet (forward w) b
  unfolding forward nav_forward home
  kept-forward w S = kept-displayed w _ (GoForward w) S refl (λ d s ow.
      (own_sees F (window, w.0) ow, kept-moved F w (observed (history w) b) (neighbour document_after (observed (history w) b) (active_among (observed (history w) b))) b ow))

  pub kept : (e : Event) (new : List Cookie) → is_local e ≡ true → length new ≤ 4 → Seeds F e b → Keeps F none_yet (program e new) b
  unfolding is_local program
  kept (RunScript w out) new l few S = kept-script F b W w out new few l S
  kept (Urlbar NewWindow url) new l few S = never (cc)
  kept (Urlbar (Existing w) url) new l few S = kept-urlbar w url S
  kept (Reload w) new l few S = kept-reload w S
  kept (GoForward w) new l few S = kept-forward w S
  kept (GoBack w) new l few S = kept_back w S
  kept CloseCorrupt new l few S = never (cc)
  kept (EncryptedAnswer k a) new l few S = kept_encrypted F b W k a new few S
  kept (PlainAnswer a) new l few S = kept-plain F b W a new few S
  kept (DnsResolved a) new l few S = kept-resolved F b W a new S
