-- What a node does in one step, by its kind: the table of components.
use Rattle.std.specs.Prelude.{◌≡◌, ◌⊎◌, ℕ, zero, suc, ◌^◌, ◌%◌, ◌<◌, List, [], ◌∷◌, ◌++◌, Some, None, map, length, replicate}
use Rattle.std.specs.List.{concat, zip}
use Rattle.op_table.specs.Value.{op_value}
use Rattle.fun_expr.specs.Function.{fun_value}
use Rattle.port_types.specs.Token.{Fits}
use Rattle.components.specs.declared.kind.Kind.{Kind}
use Rattle.components.specs.declared.kind.Kind.TheVariants.{Entry, Exit, Buffer, Fork, Join, Split, Operator, Constant, Source0, Sink0, Pure, Mux, Branch, Merge, CtrlMerge, Init, Tagger}
use Rattle.components.specs.Kind.{Shape}
use Rattle.circuits.specs.PortTokens.{Token, single, one}
use Rattle.circuits.specs.CircuitState.{Slot, HasNoTag}

-- a token is fed to a node or taken from it, or the node fires, with a choice where it has several
pub data Label : Type 0 where
  Feed : Token → Label
  Take : Token → Label
  Fire : ℕ → Label

-- tokens of these shapes, one of each
abbrev pub FitEach : List Shape → List Token → Type 0
FitEach [] [] = Unit {0}
FitEach [] (v ∷ vs) = ⊥
FitEach (shape ∷ shapes) [] = ⊥
FitEach (shape ∷ shapes) (v ∷ vs) = Fits shape v × FitEach shapes vs

-- a token at the port behind so many others, and at no other port
abbrev pub one_behind : ℕ → Token → List (List Token)
one_behind count v = replicate count [] ++ one v ∷ []

-- a Mux takes 0 and the token of its second input, or 1 and that of its third
abbrev pub Selects : Token → List (List Token) → Type 0
Selects v taken = (taken ≡ one (single 0) ∷ one v ∷ []) ⊎ (taken ≡ one (single 1) ∷ [] ∷ one v ∷ [])

-- a Branch takes a token with 1 and gives it at its first output, or with 0 and gives it at its second
abbrev pub FiresBranch : Token → List (List Token) → List (List Token) → Type 0
FiresBranch v taken given =
    ((taken ≡ one v ∷ one (single 1) ∷ []) × (given ≡ one v ∷ [])) ⊎
    ((taken ≡ one v ∷ one (single 0) ∷ []) × (given ≡ [] ∷ one v ∷ []))

-- a slot in which a tag waits for its result
abbrev pub waiting : ℕ → Slot
waiting tag = record { tag = tag; result = None }

-- the same with the result
abbrev pub finished : ℕ → Token → Slot
finished tag v = record { tag = tag; result = Some v }

-- one firing of a Tagger: with choice 0 the oldest slot goes and its result is given at the second output;
-- with choice 1 a result from the second input comes into the slot of its tag, which has none yet;
-- with choice 2 and more a token of the first input is given, behind the tag that the choice says, at the first output, and takes a newest slot
abbrev pub FiresTagger : ℕ → ℕ → List Slot → List (List Token) → List (List Token) → List Slot → Type 0
FiresTagger tags zero old taken given new =
    (tag : ℕ) × (v : Token) × (old ≡ finished tag v ∷ new) × (taken ≡ []) × (given ≡ [] ∷ one v ∷ [])
FiresTagger tags (suc zero) old taken given new =
    (tag : ℕ) × (v : Token) × (older newer : List Slot) ×
    (old ≡ older ++ waiting tag ∷ newer) × (new ≡ older ++ finished tag v ∷ newer) × (taken ≡ [] ∷ one (tag ∷ v) ∷ []) × (given ≡ [])
FiresTagger tags (suc (suc tag)) old taken given new =
    (v : Token) × (tag < tags) × HasNoTag tag old × (new ≡ old ++ waiting tag ∷ []) × (taken ≡ one v ∷ []) × (given ≡ one (tag ∷ v) ∷ [])

-- one firing: its choice, the slots before, what is taken from each input, what is given at each output, and the slots after
abbrev pub Fires : Kind → ℕ → List Slot → List (List Token) → List (List Token) → List Slot → Type 0
Fires (Entry shape) choice old taken given new = ⊥
Fires (Exit shape) choice old taken given new = ⊥
Fires (Buffer shape) choice old taken given new =
    (v : Token) × (choice ≡ 0) × (taken ≡ one v ∷ []) × (given ≡ one v ∷ []) × (new ≡ old)
Fires (Fork shape count) choice old taken given new =
    (v : Token) × (choice ≡ 0) × (taken ≡ one v ∷ []) × (given ≡ replicate count (one v)) × (new ≡ old)
Fires (Join shapes) choice old taken given new =
    (parts : List Token) × (choice ≡ 0) × (length parts ≡ length shapes) × (taken ≡ map one parts) × (given ≡ one (concat parts) ∷ []) × (new ≡ old)
Fires (Split shapes) choice old taken given new =
    (parts : List Token) × (choice ≡ 0) × FitEach shapes parts × (taken ≡ one (concat parts) ∷ []) × (given ≡ map one parts) × (new ≡ old)
Fires (Operator op widths width) choice old taken given new =
    (numbers : List ℕ) × (choice ≡ 0) × (length numbers ≡ length widths) × (taken ≡ map (λ number. one (single number)) numbers) ×
    (given ≡ one (single (op_value op (zip widths numbers) width)) ∷ []) × (new ≡ old)
Fires (Constant shape width value) choice old taken given new =
    (v : Token) × (choice ≡ 0) × (taken ≡ one v ∷ []) × (given ≡ one (single (value % 2 ^ width)) ∷ []) × (new ≡ old)
Fires (Source0 shape) choice old taken given new =
    (choice ≡ 0) × (taken ≡ []) × (given ≡ one (map (λ width. 0) shape) ∷ []) × (new ≡ old)
Fires (Sink0 shape) choice old taken given new =
    (v : Token) × (choice ≡ 0) × (taken ≡ one v ∷ []) × (given ≡ []) × (new ≡ old)
Fires (Pure fun shape) choice old taken given new =
    (v : Token) × (choice ≡ 0) × (taken ≡ one v ∷ []) × (given ≡ one (fun_value fun v) ∷ []) × (new ≡ old)
Fires (Mux shape) choice old taken given new =
    (v : Token) × (choice ≡ 0) × Selects v taken × (given ≡ one v ∷ []) × (new ≡ old)
Fires (Branch shape) choice old taken given new =
    (v : Token) × (choice ≡ 0) × FiresBranch v taken given × (new ≡ old)
Fires (Merge shape count) choice old taken given new =
    (v : Token) × (choice < count) × (taken ≡ one_behind choice v) × (given ≡ one v ∷ []) × (new ≡ old)
Fires (CtrlMerge shape count width) choice old taken given new =
    (v : Token) × (choice < count) × (taken ≡ one_behind choice v) × (given ≡ one v ∷ one (single choice) ∷ []) × (new ≡ old)
Fires (Init value mark) choice old taken given new =
    (v : Token) × (choice ≡ 0) × (taken ≡ one v ∷ []) × (given ≡ one v ∷ []) × (new ≡ old)
Fires (Tagger shape tags) choice old taken given new = FiresTagger tags choice old taken given new

-- one step, by its label: an Entry is fed tokens of its shape, and from an Exit tokens are taken
abbrev pub Acts : Kind → Label → List Slot → List (List Token) → List (List Token) → List Slot → Type 0
Acts k (Fire choice) old taken given new = Fires k choice old taken given new
Acts (Entry shape) (Feed v) old taken given new = Fits shape v × (taken ≡ []) × (given ≡ one v ∷ []) × (new ≡ old)
Acts (Exit shape) (Take v) old taken given new = (taken ≡ one v ∷ []) × (given ≡ []) × (new ≡ old)
Acts _ _ old taken given new = ⊥
