-- Table by table.
use Rattle.std.proofs.Common.{◌≡◌, ap, refl, ℕ}
use mathlib.Core.Bool.{◌&&◌}
use Prim.Native.Nat.{◌-◌}
use lib.Dec.{leb}
use borrow.Author.Tests.{le-leb, lt-leb}
use Rattle.tables.specs.Tables.{windows, documents, cookies, local_storage, session_storage, inputs, pending_dns, pending_requests, sts, cap}
use Rattle.browser.proofs.Tests.{joined, parted}
use Rattle.browser.proofs.Closed.{free, roomy-is}
use Rattle.browser.proofs.is_roomy.Goals as goal
use Rattle.browser.proofs.is_roomy.Goals.{Joined-size-7, then-size, else-size, then-size-2, else-size-2, then-size-3, else-size-3, then-size-4, else-size-4, then-size-5, else-size-5, then-size-6, else-size-6, then-size-7, else-size-7}

-- all but the last
asked : (c : Joined-size-7) → let f = free c.args.m.now in c.if-size-7.value ≡ (f windows && f documents && f cookies && f local_storage && f session_storage && f inputs && f pending_dns && f pending_requests)
asked c =
    let f = free c.args.m.now in
    let a : c.if-size.value ≡ (f windows && f documents) = elim c.if-size.branch [ then-size w ↦ joined (ap (λ (n : ℕ). leb n (cap windows - 4)) c.size.ensures) (le-leb _ _ w.if-size.true) w.value-is (ap (λ (n : ℕ). leb n (cap documents - 4)) w.size-then-size.ensures) | else-size w ↦ parted _ (ap (λ (n : ℕ). leb n (cap windows - 4)) c.size.ensures) (lt-leb _ _ w.if-size.false) w.value-is ] in
    let b : c.if-size-2.value ≡ (f windows && f documents && f cookies) = elim c.if-size-2.branch [ then-size-2 w ↦ joined a w.if-size-2.true w.value-is (ap (λ (n : ℕ). leb n (cap cookies - 4)) w.size-then-size-2.ensures) | else-size-2 w ↦ parted _ a w.if-size-2.false w.value-is ] in
    let d : c.if-size-3.value ≡ (f windows && f documents && f cookies && f local_storage) = elim c.if-size-3.branch [ then-size-3 w ↦ joined b w.if-size-3.true w.value-is (ap (λ (n : ℕ). leb n (cap local_storage - 4)) w.size-then-size-3.ensures) | else-size-3 w ↦ parted _ b w.if-size-3.false w.value-is ] in
    let e : c.if-size-4.value ≡ (f windows && f documents && f cookies && f local_storage && f session_storage) = elim c.if-size-4.branch [ then-size-4 w ↦ joined d w.if-size-4.true w.value-is (ap (λ (n : ℕ). leb n (cap session_storage - 4)) w.size-then-size-4.ensures) | else-size-4 w ↦ parted _ d w.if-size-4.false w.value-is ] in
    let g : c.if-size-5.value ≡ (f windows && f documents && f cookies && f local_storage && f session_storage && f inputs) = elim c.if-size-5.branch [ then-size-5 w ↦ joined e w.if-size-5.true w.value-is (ap (λ (n : ℕ). leb n (cap inputs - 4)) w.size-then-size-5.ensures) | else-size-5 w ↦ parted _ e w.if-size-5.false w.value-is ] in
    let h : c.if-size-6.value ≡ (f windows && f documents && f cookies && f local_storage && f session_storage && f inputs && f pending_dns) = elim c.if-size-6.branch [ then-size-6 w ↦ joined g w.if-size-6.true w.value-is (ap (λ (n : ℕ). leb n (cap pending_dns - 4)) w.size-then-size-6.ensures) | else-size-6 w ↦ parted _ g w.if-size-6.false w.value-is ] in
    elim c.if-size-7.branch [ then-size-7 w ↦ joined h w.if-size-7.true w.value-is (ap (λ (n : ℕ). leb n (cap pending_requests - 4)) w.size-then-size-7.ensures) | else-size-7 w ↦ parted _ h w.if-size-7.false w.value-is ]

pub returns-then-size-8 : goal.returns-then-size-8
returns-then-size-8 c = roomy-is c.args.m.now (joined (asked (goal.at.returns-then-size-8 c).Joined-size-7) c.if-size-8.true refl (ap (λ (n : ℕ). leb n (cap sts - 4)) c.size-then-size-8.ensures))

pub returns-else-size-8 : goal.returns-else-size-8
returns-else-size-8 c = roomy-is c.args.m.now (parted _ (asked (goal.at.returns-else-size-8 c).Joined-size-7) c.if-size-8.false refl)
