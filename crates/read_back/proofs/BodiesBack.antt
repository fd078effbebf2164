-- The pairs of a printed node are read as its body.
use Rattle.std.proofs.Common.{◌≡◌, inl, inr, ℕ, zero, suc, true, false, cond, ◌||◌, List, Some, Ok, Err, codes, decimal, refl, ap, ◌∙◌, arith}
use Rattle.std.specs.FinMap as map
use Rattle.op_table.specs.Operator.{graph_word}
use Rattle.fun_expr.specs.FunText.{fun_text}
use Rattle.fun_expr.specs.Laws.{PrintedIsText}
use Rattle.port_types.specs.declared.side.Side.{Side}
use Rattle.port_types.specs.declared.side.Side.TheVariants.{Ins, Outs}
use Rattle.port_types.specs.PortLaws.{ReadsPorts, ReadsBack}
use Rattle.components.specs.declared.kind.Kind.{Kind}
use Rattle.components.specs.declared.kind.Kind.TheVariants.{Entry, Exit, Buffer, Fork, Join, Split, Operator, Constant, Source0, Sink0, Pure, Mux, Branch, Merge, CtrlMerge, Init, Tagger}
use Rattle.components.specs.Kind.{KindOk}
use Rattle.components.specs.Node.{Body, IsOwned, is_owned}
use Rattle.components.specs.Laws.{PortsAreShapes}
use Rattle.graph_print.specs.CanonicalText.{kind_word, hexadecimal, marked_ports, pairs_of}
use Rattle.graph_read.specs.declared.fault.GraphFaultKind.TheVariants.{MemoryPort}
use Rattle.graph_read.specs.Attributes.{Pair, last_value}
use Rattle.graph_read.specs.NodeReading.{has_star, text_reading, ports_reading, component_reading, named_reading, word_reading, kind_reading, with_kept, body_reading}
use Rattle.components.specs.Component.{component_at, WordsReadBack}
use Rattle.graph_read.specs.Laws.{Says, RowsReadBack, HexadecimalValues, DecimalTags}
use Rattle.read_back.specs.CanonicalReading.{ValueFits}
use Rattle.read_back.proofs.PairsBack.{front, front_own, text_of_side, owned_last, says_type, says_ports, keeps}
use Rattle.read_back.proofs.PortsBack.{ports_read, ports_starless}

-- the pairs say of each owned key what the pairs of the kind say
abbrev SayOwned : Kind → List Pair → Type 0
SayOwned kind pairs = (key : List ℕ) → is_owned kind key ≡ true → last_value key pairs ≡ last_value key (front kind)

-- what ensures that texts of numbers, ports and functions are read
pub record ReadingLaws : Type 0 where
  pub words : WordsReadBack
  pub shapes : PortsAreShapes
  pub says : ReadsPorts
  pub back : ReadsBack
  pub rows : RowsReadBack
  pub values : HexadecimalValues
  pub tags : DecimalTags
  pub functions : PrintedIsText

module _ (laws : ReadingLaws) where
  says_own : (kind : Kind) (pairs : List Pair) → KindOk kind → ValueFits kind → SayOwned kind pairs → Says kind pairs
  says_own (Entry shape) pairs ok fits say = tt
  says_own (Exit shape) pairs ok fits say = tt
  says_own (Buffer shape) pairs ok fits say = tt
  says_own (Fork shape count) pairs ok fits say = tt
  says_own (Join shapes) pairs ok fits say = tt
  says_own (Split shapes) pairs ok fits say = tt
  says_own (Operator op widths width) pairs ok fits say = say (codes "op") refl ∙ front_own (Operator op widths width) (codes "op") (graph_word op) refl
  says_own (Constant shape width value) pairs ok fits say =
      (hexadecimal value, say (codes "value") refl ∙ front_own (Constant shape width value) (codes "value") (hexadecimal value) refl, laws.values value fits)
  says_own (Source0 shape) pairs ok fits say = tt
  says_own (Sink0 shape) pairs ok fits say = tt
  says_own (Pure fun shape) pairs ok fits say =
      (fun_text fun.binds fun.outs, say (codes "fun") refl ∙ front_own (Pure fun shape) (codes "fun") (fun_text fun.binds fun.outs) refl, laws.functions fun ok.1)
  says_own (Mux shape) pairs ok fits say = tt
  says_own (Branch shape) pairs ok fits say = tt
  says_own (Merge shape count) pairs ok fits say = tt
  says_own (CtrlMerge shape count width) pairs ok fits say = tt
  says_own (Init value zero) pairs ok fits say = (
    inr (hexadecimal value, say (codes "value") refl ∙ front_own (Init value zero) (codes "value") (hexadecimal value) refl, laws.values value (omega (arith, ok.0))),
    inl (say (codes "ooo") refl, refl),
  )
  says_own (Init value (suc mark)) pairs ok fits say = (
    inr (hexadecimal value, say (codes "value") refl ∙ front_own (Init value (suc mark)) (codes "value") (hexadecimal value) refl, laws.values value (omega (arith, ok.0))),
    inr (decimal (suc mark), say (codes "ooo") refl ∙ front_own (Init value (suc mark)) (codes "ooo") (decimal (suc mark)) refl, laws.tags (suc mark) (omega arith) ok.1),
  )
  says_own (Tagger shape tags) pairs ok fits say =
      (decimal tags, say (codes "tags") refl ∙ front_own (Tagger shape tags) (codes "tags") (decimal tags) refl, laws.tags tags ok.2 ok.3)

  module _ (body : Body) (ok : KindOk body.kind) (fits : ValueFits body.kind) (unowned : (key value : List ℕ) → map.get body.kept key ≡ Some value → ¬ (IsOwned body.kind key)) where
    abbrev pairs : List Pair
    pairs = pairs_of body

    starless : (side : Side) → has_star (text_of_side side (marked_ports body.kind side)) ≡ false
    starless side = ports_starless laws.shapes laws.says laws.back body.kind side ok

    component_read : component_reading (component_at body.kind) pairs ≡ Ok body.kind
    component_read =
        (λ i. cond (has_star (says_ports body unowned Ins i) || has_star (says_ports body unowned Outs i)) (Err MemoryPort)
        (ports_reading (component_at body.kind) (text_reading Ins (says_ports body unowned Ins i)) (text_reading Outs (says_ports body unowned Outs i)) pairs))
        ∙ (λ i. cond (starless Ins i || starless Outs i) (Err MemoryPort)
        (ports_reading (component_at body.kind) (ports_read laws.shapes laws.back body.kind Ins ok i) (ports_read laws.shapes laws.back body.kind Outs ok i) pairs))
        ∙ laws.rows body.kind pairs ok (says_own body.kind pairs ok fits (owned_last body unowned))

    kind_read : kind_reading pairs ≡ Ok body.kind
    kind_read =
        ap (λ word. word_reading word pairs) (says_type body unowned) ∙ ap (λ component. named_reading (kind_word body.kind) component pairs) (laws.words (component_at body.kind))
        ∙ component_read

    pub body_read : body_reading pairs ≡ Ok body
    body_read = ap (with_kept pairs) kind_read ∙ ap (λ kept. Ok (record { kind = body.kind; kept = kept })) (keeps body unowned)
