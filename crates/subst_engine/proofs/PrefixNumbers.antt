-- The numbers in the names of a graph's nodes.
use Rattle.std.proofs.Common.{◌≡◌, inl, inr, ℕ, ◌+◌, ◌-◌, ◌<◌, ◌≤◌, ◌^◌, Option, Some, None, IsSome, is_some, refl, sym, ap, subst, ◌∙◌, true≢false, arith}
use Rattle.std.specs.Prelude.{option_and_then}
use Rattle.std.specs.FinMap as map
use Rattle.std.proofs.lemmas.Bool.{cases_lt}
use Rattle.std.proofs.lemmas.Option.{option_and_then_some}
use Rattle.port_types.specs.Numeral.{NumeralsTellNumbers}
use Rattle.components.specs.Node.{Body}
use Rattle.graph_core.specs.GraphValue.{GraphValue, IsGraph}
use Rattle.graph_core.specs.Place.{id_of, index_of}
use Rattle.subst_engine.specs.Prefix.{IsTaken, IsFreshPrefix}
use Rattle.subst_engine.specs.PrefixNumber.{number_in, number_at, HasNumber}
use Rattle.subst_engine.proofs.PrefixNames.{begins, number_of_prefix}
use Rattle.subst_engine.proofs.Counted.{few}

module _ (g : GraphValue) (is : IsGraph g) where
  -- the numbers stand in the slots
  pub number_within : (index number : ℕ) → number_at g index ≡ Some number → index < g.slots
  number_within index number found = option_and_then_some number_in (map.get g.ids (id_of index)) number found (λ name denotes value. is.within (id_of index) name denotes)

  -- so no more numbers than slots are taken
  pub few_numbers : (bound : ℕ) → ((number : ℕ) → number < bound → HasNumber g number) → bound ≤ g.slots
  few_numbers bound each = few (number_at g) g.slots bound number_within each

  module _ (law : NumeralsTellNumbers) where
    pub taken_from_number : (number : ℕ) → HasNumber g number → IsTaken g.graph number
    taken_from_number number (index, found) = option_and_then_some number_in (map.get g.ids (id_of index)) number found (λ name denotes value.
        let (body, there) = is.denoted (id_of index) name denotes in
        (name, ap is_some there, begins law name number value))

    pub number_from_taken : (number : ℕ) → number < 2 ^ 64 → IsTaken g.graph number → HasNumber g number
    number_from_taken number small (name, there, begin) = by (map.get g.graph.nodes name) refl there
      where
        by : (o : Option Body) → map.get g.graph.nodes name ≡ o → IsSome o → HasNumber g number
        by None found some = absurd (true≢false (sym some))
        by (Some body) found some =
            let (id, denotes) = is.live name body found in
            (index_of id, ap (option_and_then number_in) denotes ∙ number_of_prefix law name number small begin)

    -- the least number that no name has
    pub fresh : (number : ℕ) → number < 2 ^ 64 → ¬ (HasNumber g number) → ((lesser : ℕ) → lesser < number → HasNumber g lesser) → IsFreshPrefix g.graph number
    fresh number small none each = record {
      fresh = λ taken. none (number_from_taken number small taken);
      least = λ lesser below. taken_from_number lesser (each lesser below);
    }

-- numbers from a base on are behind those below it
pub further : (g : GraphValue) (base count : ℕ) → ((number : ℕ) → number < base → HasNumber g number) → ((place : ℕ) → place < count → HasNumber g (base + place)) → (number : ℕ) → number < base + count → HasNumber g number
further g base count before more number below = elim (cases_lt number base) [
  | inl lesser ↦ before number lesser
  | inr from ↦ let is : base + (number - base) ≡ number = omega arith in subst (HasNumber g) is (more (number - base) (omega arith))
]

-- where as many numbers are taken as there are slots, the next is free
pub next_free : (g : GraphValue) → IsGraph g → (base : ℕ) → g.slots ≤ base → ((number : ℕ) → number < base → HasNumber g number) → ¬ (HasNumber g base)
next_free g is base reached before has =
    let all : (number : ℕ) → number < base + 1 → HasNumber g number = further g base 1 before (λ place below. let here : base ≡ base + place = omega arith in subst (HasNumber g) here has) in
    let more : base + 1 ≤ g.slots = few_numbers g is (base + 1) all in
    omega arith
