-- Nine tables at once: their orders are linear, a fact of each is a fact of all, and a change of one leaves the others.
use mathlib.Core.Path.{◌≡◌, refl, sym, ◌∙◌}
use mathlib.Core.Bool.{Bool, true, false, ◌&&◌, true≢false}
use mathlib.Core.List.{List}
use borrow.Author.Tests.{eq-eqb}
use lib.Dec.{eqb}
use Rattle.sorted.specs.Order.{Linear}
use Rattle.sorted.proofs.Linear.{linearℕ, linear_bool, linear_lex}
use Rattle.sorted.proofs.Tests.{and_split}
use Rattle.tables.specs.Tables.{Table, windows, documents, cookies, local_storage, session_storage, inputs, pending_dns, pending_requests, sts, Row, Key, cmp, index, Tables, update}
use Rattle.tables.specs.Labels.{every}

pub linear : (t : Table) → Linear (Key t) (cmp t)
linear windows = linearℕ
linear documents = linear_lex linearℕ linearℕ
linear cookies = linear_lex linearℕ (linear_lex linear_bool linearℕ)
linear local_storage = linear_lex linearℕ linear_bool
linear session_storage = linear_lex linearℕ (linear_lex linear_bool linearℕ)
linear inputs = linear_lex linearℕ linearℕ
linear pending_dns = linearℕ
linear pending_requests = linearℕ
linear sts = linearℕ

-- ONE AFTER THE OTHER.
pub each : (P : Table → Type 0) → P windows → P documents → P cookies → P local_storage → P session_storage → P inputs → P pending_dns → P pending_requests → P sts → (t : Table) → P t
each P a b c d e f g h i windows = a
each P a b c d e f g h i documents = b
each P a b c d e f g h i cookies = c
each P a b c d e f g h i local_storage = d
each P a b c d e f g h i session_storage = e
each P a b c d e f g h i inputs = f
each P a b c d e f g h i pending_dns = g
each P a b c d e f g h i pending_requests = h
each P a b c d e f g h i sts = i

-- tables that agree one by one are the same
pub same_tables : (m n : Tables) → m windows ≡ n windows → m documents ≡ n documents → m cookies ≡ n cookies → m local_storage ≡ n local_storage → m session_storage ≡ n session_storage → m inputs ≡ n inputs → m pending_dns ≡ n pending_dns → m pending_requests ≡ n pending_requests → m sts ≡ n sts → m ≡ n
same_tables m n a b c d e f g h i = λ k t. each (λ u. m u ≡ n u) a b c d e f g h i t k

-- what holds of every table before, and of the changed one, holds of every table after
pub update-one : (P : (u : Table) → List (Row u) → Type 0) (t : Table) (f : List (Row t) → List (Row t)) (b : Tables)
    → ((u : Table) → P u (b u)) → P t (f (b t)) → (u : Table) → P u (update t f b u)
update-one P windows f b h k = each (λ u. P u (update windows f b u)) k (h documents) (h cookies) (h local_storage) (h session_storage) (h inputs) (h pending_dns) (h pending_requests) (h sts)
update-one P documents f b h k = each (λ u. P u (update documents f b u)) (h windows) k (h cookies) (h local_storage) (h session_storage) (h inputs) (h pending_dns) (h pending_requests) (h sts)
update-one P cookies f b h k = each (λ u. P u (update cookies f b u)) (h windows) (h documents) k (h local_storage) (h session_storage) (h inputs) (h pending_dns) (h pending_requests) (h sts)
update-one P local_storage f b h k = each (λ u. P u (update local_storage f b u)) (h windows) (h documents) (h cookies) k (h session_storage) (h inputs) (h pending_dns) (h pending_requests) (h sts)
update-one P session_storage f b h k = each (λ u. P u (update session_storage f b u)) (h windows) (h documents) (h cookies) (h local_storage) k (h inputs) (h pending_dns) (h pending_requests) (h sts)
update-one P inputs f b h k = each (λ u. P u (update inputs f b u)) (h windows) (h documents) (h cookies) (h local_storage) (h session_storage) k (h pending_dns) (h pending_requests) (h sts)
update-one P pending_dns f b h k = each (λ u. P u (update pending_dns f b u)) (h windows) (h documents) (h cookies) (h local_storage) (h session_storage) (h inputs) k (h pending_requests) (h sts)
update-one P pending_requests f b h k = each (λ u. P u (update pending_requests f b u)) (h windows) (h documents) (h cookies) (h local_storage) (h session_storage) (h inputs) (h pending_dns) k (h sts)
update-one P sts f b h k = each (λ u. P u (update sts f b u)) (h windows) (h documents) (h cookies) (h local_storage) (h session_storage) (h inputs) (h pending_dns) (h pending_requests) k

-- the same of two browsers
pub update-two : (P : (u : Table) → List (Row u) → List (Row u) → Type 0) (t : Table) (f g : List (Row t) → List (Row t)) (b d : Tables)
    → ((u : Table) → P u (b u) (d u)) → P t (f (b t)) (g (d t)) → (u : Table) → P u (update t f b u) (update t g d u)
update-two P windows f g b d h k = each (λ u. P u (update windows f b u) (update windows g d u)) k (h documents) (h cookies) (h local_storage) (h session_storage) (h inputs) (h pending_dns) (h pending_requests) (h sts)
update-two P documents f g b d h k = each (λ u. P u (update documents f b u) (update documents g d u)) (h windows) k (h cookies) (h local_storage) (h session_storage) (h inputs) (h pending_dns) (h pending_requests) (h sts)
update-two P cookies f g b d h k = each (λ u. P u (update cookies f b u) (update cookies g d u)) (h windows) (h documents) k (h local_storage) (h session_storage) (h inputs) (h pending_dns) (h pending_requests) (h sts)
update-two P local_storage f g b d h k = each (λ u. P u (update local_storage f b u) (update local_storage g d u)) (h windows) (h documents) (h cookies) k (h session_storage) (h inputs) (h pending_dns) (h pending_requests) (h sts)
update-two P session_storage f g b d h k = each (λ u. P u (update session_storage f b u) (update session_storage g d u)) (h windows) (h documents) (h cookies) (h local_storage) k (h inputs) (h pending_dns) (h pending_requests) (h sts)
update-two P inputs f g b d h k = each (λ u. P u (update inputs f b u) (update inputs g d u)) (h windows) (h documents) (h cookies) (h local_storage) (h session_storage) k (h pending_dns) (h pending_requests) (h sts)
update-two P pending_dns f g b d h k = each (λ u. P u (update pending_dns f b u) (update pending_dns g d u)) (h windows) (h documents) (h cookies) (h local_storage) (h session_storage) (h inputs) k (h pending_requests) (h sts)
update-two P pending_requests f g b d h k = each (λ u. P u (update pending_requests f b u) (update pending_requests g d u)) (h windows) (h documents) (h cookies) (h local_storage) (h session_storage) (h inputs) (h pending_dns) k (h sts)
update-two P sts f g b d h k = each (λ u. P u (update sts f b u) (update sts g d u)) (h windows) (h documents) (h cookies) (h local_storage) (h session_storage) (h inputs) (h pending_dns) (h pending_requests) k

pub updated : (t : Table) (f : List (Row t) → List (Row t)) (b : Tables) → update t f b t ≡ f (b t)
updated t f b = each (λ u. (g : List (Row u) → List (Row u)) → update u g b u ≡ g (b u)) (λ g. refl) (λ g. refl) (λ g. refl) (λ g. refl) (λ g. refl) (λ g. refl) (λ g. refl) (λ g. refl) (λ g. refl) t f

pub spared : (t u : Table) (f : List (Row t) → List (Row t)) (b : Tables) → eqb (index t) (index u) ≡ false → update t f b u ≡ b u
spared t u f b = update-one (λ v l. eqb (index t) (index v) ≡ false → l ≡ b v) t f b (λ v e. refl) (λ e. absurd (true≢false (sym (eq-eqb (index t) (index t) refl) ∙ e))) u

-- A TEST OF EVERY TABLE passes where each does, and fails where one does.
pub every_true : (f : Table → Bool) → ((t : Table) → f t ≡ true) → every f ≡ true
every_true f h = rw (h windows, h documents, h cookies, h local_storage, h session_storage, h inputs, h pending_dns, h pending_requests, h sts)

and_false : (a b : Bool) → b ≡ false → (a && b) ≡ false
and_false true b e = e
and_false false b e = refl

pub every_false : (f : Table → Bool) (t : Table) → f t ≡ false → every f ≡ false
every_false f windows e = rw e
every_false f documents e = and_false (f windows) _ (rw e)
every_false f cookies e = and_false (f windows) _ (and_false (f documents) _ (rw e))
every_false f local_storage e = and_false (f windows) _ (and_false (f documents) _ (and_false (f cookies) _ (rw e)))
every_false f session_storage e = and_false (f windows) _ (and_false (f documents) _ (and_false (f cookies) _ (and_false (f local_storage) _ (rw e))))
every_false f inputs e = and_false (f windows) _ (and_false (f documents) _ (and_false (f cookies) _ (and_false (f local_storage) _ (and_false (f session_storage) _ (rw e)))))
every_false f pending_dns e = and_false (f windows) _ (and_false (f documents) _ (and_false (f cookies) _ (and_false (f local_storage) _ (and_false (f session_storage) _ (and_false (f inputs) _ (rw e))))))
every_false f pending_requests e = and_false (f windows) _ (and_false (f documents) _ (and_false (f cookies) _ (and_false (f local_storage) _ (and_false (f session_storage) _ (and_false (f inputs) _ (and_false (f pending_dns) _ (rw e)))))))
every_false f sts e = and_false (f windows) _ (and_false (f documents) _ (and_false (f cookies) _ (and_false (f local_storage) _ (and_false (f session_storage) _ (and_false (f inputs) _ (and_false (f pending_dns) _ (and_false (f pending_requests) _ (e))))))))

pub every_one : (f : Table → Bool) → every f ≡ true → (t : Table) → f t ≡ true
every_one f e =
    let w = and_split (f windows) _ e in
    let d = and_split (f documents) _ w.1 in
    let c = and_split (f cookies) _ d.1 in
    let l = and_split (f local_storage) _ c.1 in
    let s = and_split (f session_storage) _ l.1 in
    let i = and_split (f inputs) _ s.1 in
    let q = and_split (f pending_dns) _ i.1 in
    let r = and_split (f pending_requests) (f sts) q.1 in
    each (λ t. f t ≡ true) w.0 d.0 c.0 l.0 s.0 i.0 q.0 r.0 r.1
