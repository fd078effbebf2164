-- The port of a list that a text names.
use Rattle.std.proofs.Common.{◌≡◌, ◌≢◌, ℕ, zero, suc, ◌+◌, ◌<◌, ◌≤◌, ◌^◌, Bool, true, false, List, [], ◌∷◌, length, Some, None, decimal, refl, sym, ap, ◌∙◌, arith, if◌then◌else◌}
use Rattle.std.specs.Prelude.{bytes_eq}
use Rattle.std.proofs.lemmas.Bool.{false_from_ne_true}
use Rattle.std.proofs.lemmas.Slice.Eq.{bytes_eq-Decides}
use Rattle.port_types.specs.declared.side.Side.{Side}
use Rattle.port_types.specs.PortText.{port_name}
use Rattle.components.specs.Kind.{Shape}
use Rattle.components.specs.Name.{port_get}
use Rattle.components.specs.Numbered.{one_number}
use Rattle.graph_read.specs.GraphReading.{named_in}
use Rattle.graph_read.specs.GraphSteps.{IsPortThere}

-- a text that is the name of none of the ports
pub not_named : (side : Side) (text : List ℕ) (number : ℕ) (shapes : List Shape) → ((j : ℕ) → number ≤ j → j < number + length shapes → text ≢ port_name side j) → named_in side text number shapes ≡ None
not_named side text number [] other = refl
not_named side text number (shape ∷ shapes) other =
    let first : bytes_eq text (port_name side number) ≡ false = false_from_ne_true (bytes_eq text (port_name side number)) (λ test. other number (omega arith) (omega arith) ((bytes_eq-Decides text (port_name side number)).0 test)) in
    ap (λ (t : Bool). if t then Some (number, shape) else named_in side text (number + 1) shapes) first
    ∙ not_named side text (number + 1) shapes (λ j lower upper. other j (omega arith) (omega arith))

-- the text names the port that stands i places behind the first
named : (side : Side) (text : List ℕ) (i number : ℕ) (shapes : List Shape) → i < length shapes → number + i < 2 ^ 64 → text ≡ port_name side (number + i) →
    (shape : Shape) × (port_get shapes (suc i) ≡ Some shape) × (named_in side text number shapes ≡ Some (number + i, shape))
named side text i number [] within fits is = absurd (omega arith)
named side text zero number (shape ∷ shapes) within fits is =
    let at : number + zero ≡ number = omega arith in
    let here : bytes_eq text (port_name side number) ≡ true = (bytes_eq-Decides text (port_name side number)).1 (is ∙ ap (port_name side) at) in
    (shape, refl, ap (λ (t : Bool). if t then Some (number, shape) else named_in side text (number + 1) shapes) here ∙ ap (λ (n : ℕ). Some (n, shape)) (sym at))
named side text (suc i) number (shape ∷ shapes) within fits is =
    let fits_first : number < 2 ^ 64 = omega (arith, fits) in
    let other : bytes_eq text (port_name side number) ≡ false =
    false_from_ne_true (bytes_eq text (port_name side number)) (λ test.
    let same : number + suc i ≡ number = one_number side (number + suc i) number fits fits_first (sym is ∙ (bytes_eq-Decides text (port_name side number)).0 test) in
    absurd (omega (arith, same))) in
    let at : number + suc i ≡ number + 1 + i = omega arith in
    let rest = named side text i (number + 1) shapes (omega (arith, within)) (omega (arith, fits)) (is ∙ ap (port_name side) at) in
    (rest.0, rest.1, ap (λ (t : Bool). if t then Some (number, shape) else named_in side text (number + 1) shapes) other ∙ rest.2 ∙ ap (λ (n : ℕ). Some (n, rest.0)) (sym at))

pub is_port_there : (side : Side) (text : List ℕ) (shapes : List Shape) (number : ℕ) → 1 ≤ number → number ≤ length shapes → number ≤ 255 → text ≡ port_name side number → IsPortThere side text shapes number
is_port_there side text shapes zero some few small is = absurd (omega arith)
is_port_there side text shapes (suc i) some few small is =
    let at : suc i ≡ 1 + i = omega arith in
    let found = named side text i 1 shapes (omega (arith, few)) (omega (arith, small)) (is ∙ ap (port_name side) at) in
    record { shape = found.0; is_port = found.1; is_named = found.2 ∙ ap (λ (n : ℕ). Some (n, found.0)) (sym at) }

-- the name of another port than these
pub other_port : (side : Side) (text : List ℕ) (shapes : List Shape) (number : ℕ) → length shapes < number → number ≤ 255 → text ≡ port_name side number → named_in side text 1 shapes ≡ None
other_port side text shapes number behind small is =
    not_named side text 1 shapes (λ j lower upper at.
    let fits_j : j < 2 ^ 64 = omega (arith, upper, behind, small) in
    let fits : number < 2 ^ 64 = omega (arith, small) in
    let same : number ≡ j = one_number side number j fits fits_j (sym is ∙ at) in
    absurd (omega (arith, same, upper, behind)))

-- a text that is no name of a port
pub no_port : (side : Side) (text : List ℕ) (shapes : List Shape) → length shapes ≤ 255 → ((j : ℕ) → 1 ≤ j → j ≤ 255 → text ≢ port_name side j) → named_in side text 1 shapes ≡ None
no_port side text shapes few other = not_named side text 1 shapes (λ j lower upper. other j lower (omega (arith, upper, few)))
