-- The orders of names and of ports are total, and only equal ones tie.
use Rattle.std.proofs.Common.{◌≡◌, ◌≢◌, ◌⊎◌, ℕ, List, bytes_eq, true, refl, sym, ap, Ordering, Less, Equal, Greater, is_eq, nat_cmp}
use Rattle.std.proofs.lemmas.Bool.{false_from_ne_true, true≢false}
use Rattle.std.proofs.lemmas.Slice.Eq.{bytes_eq-Decides}
use Rattle.std.specs.Prelude.{false}
use Rattle.std.specs.Ordering.{ordering_then}
use Rattle.std.specs.Cmp.{IsTotalOrder, then_total, on_total, nat_cmp_total}
use Rattle.std.specs.Cmp.Lexicographic.{nat_list_cmp_total}
use Rattle.std.specs.FinMap.{IsAntisymmetric, nat_cmp-IsAntisymmetric, slice_cmp-IsAntisymmetric}
use Rattle.components.specs.Name.{Name, Port, name_cmp, port_cmp}
use Rattle.components.specs.Lookups.{key_cases}

pub name_total : IsTotalOrder name_cmp
name_total = nat_list_cmp_total

pub name_same : IsAntisymmetric name_cmp
name_same = slice_cmp-IsAntisymmetric nat_cmp-IsAntisymmetric

pub port_total : IsTotalOrder port_cmp
port_total = then_total (on_total (λ (p : Port). p.node) nat_list_cmp_total) (on_total (λ (p : Port). p.port) nat_cmp_total)

-- where two orders in turn tie, the first ties, and so does the second
first_ties : (r s : Ordering) → ordering_then r s ≡ Equal → r ≡ Equal
first_ties Less s e = e
first_ties Equal s e = refl
first_ties Greater s e = e

second_ties : (r s : Ordering) → ordering_then r s ≡ Equal → s ≡ Equal
second_ties Less s e = absurd (true≢false (sym (ap is_eq e)))
second_ties Equal s e = e
second_ties Greater s e = absurd (true≢false (sym (ap is_eq e)))

pub port_same : IsAntisymmetric port_cmp
port_same p q e =
    let nodes = name_same p.node q.node (first_ties (name_cmp p.node q.node) (nat_cmp p.port q.port) e) in
    let ports = nat_cmp-IsAntisymmetric p.port q.port (second_ties (name_cmp p.node q.node) (nat_cmp p.port q.port) e) in
    λ i. record { node = nodes i; port = ports i }

-- two are one, or they are not

pub name_cases : (a b : Name) → (a ≡ b) ⊎ (a ≢ b)
name_cases = key_cases name_total name_same

pub port_cases : (p q : Port) → (p ≡ q) ⊎ (p ≢ q)
port_cases = key_cases port_total port_same

-- what the test of two names says

pub same_bytes : (a b : List ℕ) → a ≡ b → bytes_eq a b ≡ true
same_bytes a b = (bytes_eq-Decides a b).1

pub other_bytes : (a b : List ℕ) → a ≢ b → bytes_eq a b ≡ false
other_bytes a b other = false_from_ne_true (bytes_eq a b) (λ test. other ((bytes_eq-Decides a b).0 test))
