-- The last number is in no table, and tells whether the browser is closed; four free rows.
use mathlib.Core.Path.{◌≡◌, ap, ◌∙◌}
use mathlib.Core.Bool.{Bool, true, not, ◌&&◌}
use Rattle.std.proofs.Math.Bool.{and_assoc}
use mathlib.Core.List.{List}
use Prim.Native.Nat.{ℕ, ◌+◌, ◌-◌, ◌≤◌}
use native.Mathlib.Omega.{arith}
use borrow.Author.Tests.{leb-true}
use lib.Dec.{eqb, leb, lit≤}
use lib.ListN.{length, set}
use lib.Seq.{get_or-set_same}
use Rattle.tables.specs.Tables.{Table, windows, documents, cookies, local_storage, session_storage, inputs, pending_dns, pending_requests, sts, cap}
use Rattle.tables.proofs.Update.{each, every_one}
use Rattle.memory.specs.Rows.{total, Within, table}
use Rattle.memory.proofs.Frame.{table_before, within-set}
use Rattle.browser.specs.View.{laid, view, closed_at, is_roomy, browser, with_closed}

same_tables : (m : List ℕ) (x : ℕ) → view (set m closed_at x) ≡ view m
same_tables m x = λ k t. each (λ u. table (laid u) (set m closed_at x) ≡ table (laid u) m)
    (table_before (laid windows) w (lit≤ tt))
    (table_before (laid documents) w (lit≤ tt))
    (table_before (laid cookies) w (lit≤ tt))
    (table_before (laid local_storage) w (lit≤ tt))
    (table_before (laid session_storage) w (lit≤ tt))
    (table_before (laid inputs) w (lit≤ tt))
    (table_before (laid pending_dns) w (lit≤ tt))
    (table_before (laid pending_requests) w (lit≤ tt))
    (table_before (laid sts) w (lit≤ tt))
    t k
  where
    w : Within closed_at total m (set m closed_at x)
    w = within-set closed_at total m closed_at x (lit≤ tt) (lit≤ tt)

pub closing : (m : List ℕ) (x : Bool) (k : ℕ) → length m ≡ total → not (eqb k 0) ≡ x → browser (set m closed_at k) ≡ with_closed x (browser m)
closing m x k l e = λ i. record { tables = same_tables m k i; closed = (ap (λ (j : ℕ). not (eqb j 0)) (get_or-set_same m closed_at k 0 (omega arith)) ∙ e) i }

-- where it is so there are four free rows
pub free_rows : (m : List ℕ) → is_roomy m ≡ true → (t : Table) → length (view m t) + 4 ≤ cap t
free_rows m e t = four t (length (view m t)) (leb-true (length (view m t)) (cap t - 4) (every_one (λ u. leb (length (view m u)) (cap u - 4)) e t))
  where
    four : (u : Table) (n : ℕ) → n ≤ cap u - 4 → n + 4 ≤ cap u
    four = each (λ u. (n : ℕ) → n ≤ cap u - 4 → n + 4 ≤ cap u)
        (λ n h. omega (arith, h)) (λ n h. omega (arith, h)) (λ n h. omega (arith, h)) (λ n h. omega (arith, h)) (λ n h. omega (arith, h)) (λ n h. omega (arith, h)) (λ n h. omega (arith, h)) (λ n h. omega (arith, h)) (λ n h. omega (arith, h))

-- TABLE BY TABLE, as the code asks.
abbrev pub free : List ℕ → Table → Bool
free m t = leb (length (view m t)) (cap t - 4)

nine : (a b c d e f g h i : Bool) → (a && b && c && d && e && f && g && h && i) ≡ (a && (b && (c && (d && (e && (f && (g && (h && i))))))))
nine a b c d e f g h i = simp and_assoc

pub roomy-is : (m : List ℕ) {x : Bool}
    → x ≡ (free m windows && free m documents && free m cookies && free m local_storage && free m session_storage && free m inputs && free m pending_dns && free m pending_requests && free m sts)
    → x ≡ is_roomy m
roomy-is m e = e ∙ nine (free m windows) (free m documents) (free m cookies) (free m local_storage) (free m session_storage) (free m inputs) (free m pending_dns) (free m pending_requests) (free m sts)
