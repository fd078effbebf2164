-- Muxes of several lanes with the tree that leads to them, and the one Mux in their place, as plans.
use Rattle.std.proofs.Common.{◌≡◌, ℕ, zero, suc, Bool, true, false, List, Option, Some, None, refl}
use Rattle.components.specs.declared.kind.Kind.{Kind}
use Rattle.components.specs.Kind.{Shape}
use Rattle.circuit_plans.specs.Plans.{Out, Plan, Naming, from}
use Rattle.circuit_plans.specs.Places.{Place, number, place_at, same_place, same_place_is, same_place_self, output_at}
use Rattle.lane_laws.specs.CombineMuxes.{into, select, Tree, Muxes, choice, node, value2, value3, mux, out, muxes_kind, OneMux, new_choice, new_join2, new_join3, new_mux, new_split, new_value2, new_value3, new_out, one_mux_kind}

-- in the circuit what comes from outside comes from an Entry
abbrev pub led : {kinds : List Kind} {lanes : List Shape} → Option (Out (Place kinds)) → Option (Out (Muxes kinds lanes))
led None = from choice 1
led (Some q) = from (node q.at) q.port

abbrev pub muxes_source : (kinds : List Kind) (lanes : List Shape) → Tree kinds lanes → Muxes kinds lanes → ℕ → Option (Out (Muxes kinds lanes))
muxes_source kinds lanes tree (node n) (suc zero) = led (tree.source (into n))
muxes_source kinds lanes tree (mux l) (suc zero) = led (tree.source (select l))
muxes_source kinds lanes tree (mux l) (suc (suc zero)) = from (value2 l) 1
muxes_source kinds lanes tree (mux l) (suc (suc (suc zero))) = from (value3 l) 1
muxes_source kinds lanes tree (out l) (suc zero) = from (mux l) 1
muxes_source kinds lanes tree _ _ = None

abbrev pub one_mux_source : (lanes : List Shape) → OneMux lanes → ℕ → Option (Out (OneMux lanes))
one_mux_source lanes new_join2 i = output_at new_value2 1 (place_at lanes i)
one_mux_source lanes new_join3 i = output_at new_value3 1 (place_at lanes i)
one_mux_source lanes new_mux (suc zero) = from new_choice 1
one_mux_source lanes new_mux (suc (suc zero)) = from new_join2 1
one_mux_source lanes new_mux (suc (suc (suc zero))) = from new_join3 1
one_mux_source lanes new_split (suc zero) = from new_mux 1
one_mux_source lanes (new_out l) (suc zero) = from new_split (number lanes l)
one_mux_source lanes _ _ = None

abbrev pub same_muxes : (kinds : List Kind) (lanes : List Shape) → Muxes kinds lanes → Muxes kinds lanes → Bool
same_muxes kinds lanes choice choice = true
same_muxes kinds lanes (node n) (node k) = same_place kinds n k
same_muxes kinds lanes (value2 l) (value2 k) = same_place lanes l k
same_muxes kinds lanes (value3 l) (value3 k) = same_place lanes l k
same_muxes kinds lanes (mux l) (mux k) = same_place lanes l k
same_muxes kinds lanes (out l) (out k) = same_place lanes l k
same_muxes kinds lanes _ _ = false

pub same_muxes_is : (kinds : List Kind) (lanes : List Shape) (a b : Muxes kinds lanes) → same_muxes kinds lanes a b ≡ true → a ≡ b
same_muxes_is kinds lanes choice choice e = refl
same_muxes_is kinds lanes (node n) (node k) e = λ i. node (same_place_is kinds n k e i)
same_muxes_is kinds lanes (value2 l) (value2 k) e = λ i. value2 (same_place_is lanes l k e i)
same_muxes_is kinds lanes (value3 l) (value3 k) e = λ i. value3 (same_place_is lanes l k e i)
same_muxes_is kinds lanes (mux l) (mux k) e = λ i. mux (same_place_is lanes l k e i)
same_muxes_is kinds lanes (out l) (out k) e = λ i. out (same_place_is lanes l k e i)
same_muxes_is kinds lanes _ _ e = cc

pub same_muxes_self : (kinds : List Kind) (lanes : List Shape) (a : Muxes kinds lanes) → same_muxes kinds lanes a a ≡ true
same_muxes_self kinds lanes choice = refl
same_muxes_self kinds lanes (node n) = same_place_self kinds n
same_muxes_self kinds lanes (value2 l) = same_place_self lanes l
same_muxes_self kinds lanes (value3 l) = same_place_self lanes l
same_muxes_self kinds lanes (mux l) = same_place_self lanes l
same_muxes_self kinds lanes (out l) = same_place_self lanes l

abbrev pub same_one_mux : (lanes : List Shape) → OneMux lanes → OneMux lanes → Bool
same_one_mux lanes new_choice new_choice = true
same_one_mux lanes new_join2 new_join2 = true
same_one_mux lanes new_join3 new_join3 = true
same_one_mux lanes new_mux new_mux = true
same_one_mux lanes new_split new_split = true
same_one_mux lanes (new_value2 l) (new_value2 k) = same_place lanes l k
same_one_mux lanes (new_value3 l) (new_value3 k) = same_place lanes l k
same_one_mux lanes (new_out l) (new_out k) = same_place lanes l k
same_one_mux lanes _ _ = false

pub same_one_mux_is : (lanes : List Shape) (a b : OneMux lanes) → same_one_mux lanes a b ≡ true → a ≡ b
same_one_mux_is lanes new_choice new_choice e = refl
same_one_mux_is lanes new_join2 new_join2 e = refl
same_one_mux_is lanes new_join3 new_join3 e = refl
same_one_mux_is lanes new_mux new_mux e = refl
same_one_mux_is lanes new_split new_split e = refl
same_one_mux_is lanes (new_value2 l) (new_value2 k) e = λ i. new_value2 (same_place_is lanes l k e i)
same_one_mux_is lanes (new_value3 l) (new_value3 k) e = λ i. new_value3 (same_place_is lanes l k e i)
same_one_mux_is lanes (new_out l) (new_out k) e = λ i. new_out (same_place_is lanes l k e i)
same_one_mux_is lanes _ _ e = cc

pub same_one_mux_self : (lanes : List Shape) (a : OneMux lanes) → same_one_mux lanes a a ≡ true
same_one_mux_self lanes new_choice = refl
same_one_mux_self lanes new_join2 = refl
same_one_mux_self lanes new_join3 = refl
same_one_mux_self lanes new_mux = refl
same_one_mux_self lanes new_split = refl
same_one_mux_self lanes (new_value2 l) = same_place_self lanes l
same_one_mux_self lanes (new_value3 l) = same_place_self lanes l
same_one_mux_self lanes (new_out l) = same_place_self lanes l

abbrev pub muxes_plan : (kinds : List Kind) (lanes : List Shape) → Tree kinds lanes → Plan (Muxes kinds lanes)
muxes_plan kinds lanes tree =
    record { kind = muxes_kind kinds lanes; source = muxes_source kinds lanes tree; same = same_muxes kinds lanes; same_is = same_muxes_is kinds lanes; same_self = same_muxes_self kinds lanes }

abbrev pub one_mux_plan : (lanes : List Shape) → Plan (OneMux lanes)
one_mux_plan lanes =
    record { kind = one_mux_kind lanes; source = one_mux_source lanes; same = same_one_mux lanes; same_is = same_one_mux_is lanes; same_self = same_one_mux_self lanes }

-- the two have the same names at their ends
pub record SameMuxEnds (kinds : List Kind) (lanes : List Shape) (new_names : Naming (OneMux lanes)) (old_names : Naming (Muxes kinds lanes)) : Type 0 where
  pub choice_is : new_names.name new_choice ≡ old_names.name choice
  pub value2_is : (l : Place lanes) → new_names.name (new_value2 l) ≡ old_names.name (value2 l)
  pub value3_is : (l : Place lanes) → new_names.name (new_value3 l) ≡ old_names.name (value3 l)
  pub out_is : (l : Place lanes) → new_names.name (new_out l) ≡ old_names.name (out l)
