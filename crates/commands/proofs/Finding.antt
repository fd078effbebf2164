-- What calls find, one part after another.
use Rattle.std.proofs.Common.{◌≡◌, ℕ, List, Ok, Err, Result, refl, sym, subst}
use Rattle.components.specs.NamedGraph.{NamedGraph}
use Rattle.commands.specs.declared.refusal.Refusal.{Refusal}
use Rattle.commands.specs.declared.refusal.Stop.{Stop}
use Rattle.commands.specs.declared.refusal.Stop.TheVariants.{Refused, NoMemory}
use Rattle.commands.specs.Judged.{Found}
use Rattle.commands.specs.Parts.{Then, refused, goes_on, DocumentAt, EndAt, OneGraph}

module _ {A B X Y : Type 0} (of : A → X) (to : B → Y) (Part : Result X Refusal → Type 0) (Rest : X → Result Y Refusal → Type 0) where
  stop_whole : (stop : Stop) → Found of Part (Err stop) → Found to (Then Part Rest) (Err stop)
  stop_whole (Refused why) is = refused why is
  stop_whole NoMemory is = tt

  -- where the part stops, so does the whole
  pub stopped : (stop : Stop) (result : Result B Stop) → result ≡ Err stop → Found of Part (Err stop) → Found to (Then Part Rest) result
  stopped stop result e is = subst (Found to (Then Part Rest)) (sym e) (stop_whole stop is)

module _ {B X Y : Type 0} (to : B → Y) (Part : Result X Refusal → Type 0) (Rest : X → Result Y Refusal → Type 0) (part : X) (is : Part (Ok part)) where
  -- where the part is there, the whole comes to what the rest comes to
  pub behind : (result : Result B Stop) → Found to (Rest part) result → Found to (Then Part Rest) result
  behind (Ok answer) rest = goes_on part (Ok (to answer)) is rest
  behind (Err (Refused why)) rest = goes_on part (Err why) is rest
  behind (Err NoMemory) rest = tt

-- an input of one document
module _ (input : List ℕ) (place : ℕ) (begins : place ≡ 0) where
  abbrev Ending : NamedGraph × ℕ → Result NamedGraph Refusal → Type 0
  Ending found = Then (EndAt input found.1) (λ _ answer. answer ≡ Ok found.0)

  at_beginning : (answer : Result (NamedGraph × ℕ) Refusal) → DocumentAt input place answer → DocumentAt input 0 answer
  at_beginning answer is = subst (λ from. DocumentAt input from answer) begins is

  found_at : {A : Type 0} (of : A → NamedGraph × ℕ) (stop : Stop) → Found of (DocumentAt input place) (Err stop) → Found of (DocumentAt input 0) (Err stop)
  found_at of (Refused why) is = at_beginning (Err why) is
  found_at of NoMemory is = tt

  pub no_document : {A B : Type 0} (of : A → NamedGraph × ℕ) (to : B → NamedGraph) (stop : Stop) (result : Result B Stop) → result ≡ Err stop → Found of (DocumentAt input place) (Err stop) →
      Found to (OneGraph input) result
  no_document of to stop result e is = stopped of to (DocumentAt input 0) Ending stop result e (found_at of stop is)

  module _ (g : NamedGraph) (end : ℕ) (bytes : List ℕ) (same : bytes ≡ input) (document : DocumentAt input place (Ok (g, end))) where
    ends_in : (stop : Stop) → Found {A = Unit {0}} (λ _. tt) (EndAt bytes end) (Err stop) → Found {A = Unit {0}} (λ _. tt) (EndAt input end) (Err stop)
    ends_in stop = subst (λ b. Found {A = Unit {0}} (λ _. tt) (EndAt b end) (Err stop)) same

    pub no_end : {B : Type 0} (to : B → NamedGraph) (stop : Stop) (result : Result B Stop) → result ≡ Err stop → Found {A = Unit {0}} (λ _. tt) (EndAt bytes end) (Err stop) →
        Found to (OneGraph input) result
    no_end to stop result e is =
        behind to (DocumentAt input 0) Ending (g, end) (at_beginning (Ok (g, end)) document) result
        (stopped {A = Unit {0}} (λ _. tt) to (EndAt input end) (λ _ answer. answer ≡ Ok g) stop result e (ends_in stop is))

    pub whole_graph : EndAt bytes end (Ok tt) → OneGraph input (Ok g)
    whole_graph is =
        goes_on (g, end) (Ok g) (at_beginning (Ok (g, end)) document) (goes_on tt (Ok g) (subst (λ b. EndAt b end (Ok tt)) same is) refl)
