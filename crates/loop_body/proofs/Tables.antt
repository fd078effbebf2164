-- Entries of tables, and tables of tokens that fit tables of shapes.
use Rattle.std.proofs.Common.{◌≡◌, ℕ, zero, suc, List, [], ◌∷◌, ◌++◌, map, length, Some, refl, ap, ◌∙◌, subst}
use Rattle.std.specs.Prelude.{slice_get}
use Rattle.port_types.specs.Token.{Fits}
use Rattle.components.specs.Kind.{Shape}
use Rattle.components.specs.Name.{port_get}
use Rattle.circuits.specs.PortTokens.{Token}
use Rattle.circuits.specs.Firing.{FitEach}
use Rattle.loop_body.specs.declared.body_port.BodyPort.{BodyPort}
use Rattle.loop_body.specs.Body.{in_row, entry}
use Rattle.loop_body.proofs.Lists.{some_inj, heads}

pub slice_get-front : {A : Type 0} (xs ys : List A) (i : ℕ) (x : A) → slice_get xs i ≡ Some x → slice_get (xs ++ ys) i ≡ Some x
slice_get-front [] ys i x h = absurd cc
slice_get-front (y ∷ xs) ys zero x h = h
slice_get-front (y ∷ xs) ys (suc i) x h = slice_get-front xs ys i x h

pub slice_get-seam : {A : Type 0} (xs : List A) (x : A) (ys : List A) → slice_get (xs ++ x ∷ ys) (length xs) ≡ Some x
slice_get-seam [] x ys = refl
slice_get-seam (y ∷ xs) x ys = slice_get-seam xs x ys

in_row-front : {A : Type 0} (table more : List (List A)) (i port : ℕ) (x : A) → in_row port (slice_get table i) ≡ Some x → in_row port (slice_get (table ++ more) i) ≡ Some x
in_row-front [] more i port x h = absurd cc
in_row-front (row ∷ table) more zero port x h = h
in_row-front (row ∷ table) more (suc i) port x h = in_row-front table more i port x h

-- an entry stays where rows are added
pub entry-front : {A : Type 0} (table more : List (List A)) (p : BodyPort) (x : A) → entry table p ≡ Some x → entry (table ++ more) p ≡ Some x
entry-front table more p x h = in_row-front table more p.node p.port x h

pub entries-front : {A : Type 0} (table more : List (List A)) (ports : List BodyPort) (xs : List A) → map (entry table) ports ≡ map Some xs → map (entry (table ++ more)) ports ≡ map Some xs
entries-front table more [] [] h = refl
entries-front table more [] (x ∷ xs) h = absurd cc
entries-front table more (p ∷ ports) [] h = absurd cc
entries-front table more (p ∷ ports) (x ∷ xs) h =
    let first = entry-front table more p x (heads h).0 in
    ap (λ o. o ∷ map (entry (table ++ more)) ports) first ∙ ap (λ os. Some x ∷ os) (entries-front table more ports xs (heads h).1)

-- each row of tokens fits the row of shapes
abbrev pub RowsFit : List (List Shape) → List (List Token) → Type 0
RowsFit [] [] = Unit {0}
RowsFit [] (row ∷ tokens) = ⊥
RowsFit (shapes ∷ rest) [] = ⊥
RowsFit (shapes ∷ rest) (row ∷ tokens) = FitEach shapes row × RowsFit rest tokens

pub rows_more : (shapes : List (List Shape)) (tokens : List (List Token)) (row : List Shape) (given : List Token) → RowsFit shapes tokens → FitEach row given → RowsFit (shapes ++ row ∷ []) (tokens ++ given ∷ [])
rows_more [] [] row given h k = (k, tt)
rows_more [] (x ∷ tokens) row given h k = absurd h
rows_more (s ∷ shapes) [] row given h k = absurd h
rows_more (s ∷ shapes) (x ∷ tokens) row given h k = (h.0, rows_more shapes tokens row given h.1 k)

-- the token of an output of this shape
pub record TokenAt (tokens : List (List Token)) (p : BodyPort) (shape : Shape) : Type 0 where
  pub token : Token
  pub is : entry tokens p ≡ Some token
  pub fits : Fits shape token

token_in : (row : List Shape) (tokens : List Token) → FitEach row tokens → (port : ℕ) (shape : Shape) → port_get row port ≡ Some shape → (v : Token) × (port_get tokens port ≡ Some v) × Fits shape v
token_in [] [] fit port shape h = absurd cc
token_in [] (v ∷ tokens) fit port shape h = absurd fit
token_in (s ∷ row) [] fit port shape h = absurd fit
token_in (s ∷ row) (v ∷ tokens) fit zero shape h = absurd cc
token_in (s ∷ row) (v ∷ tokens) fit (suc zero) shape h = (v, refl, subst (λ x. Fits x v) (some_inj h) fit.0)
token_in (s ∷ row) (v ∷ tokens) fit (suc (suc port)) shape h = token_in row tokens fit.1 (suc port) shape h

token_row : (shapes : List (List Shape)) (tokens : List (List Token)) → RowsFit shapes tokens → (i port : ℕ) (shape : Shape) → in_row port (slice_get shapes i) ≡ Some shape → (v : Token) × (in_row port (slice_get tokens i) ≡ Some v) × Fits shape v
token_row [] [] fit i port shape h = absurd cc
token_row [] (x ∷ tokens) fit i port shape h = absurd fit
token_row (s ∷ shapes) [] fit i port shape h = absurd fit
token_row (s ∷ shapes) (x ∷ tokens) fit zero port shape h = token_in s x fit.0 port shape h
token_row (s ∷ shapes) (x ∷ tokens) fit (suc i) port shape h = token_row shapes tokens fit.1 i port shape h

pub token_at_port : (shapes : List (List Shape)) (tokens : List (List Token)) → RowsFit shapes tokens → (p : BodyPort) (shape : Shape) → entry shapes p ≡ Some shape → TokenAt tokens p shape
token_at_port shapes tokens fit p shape h =
    let found = token_row shapes tokens fit p.node p.port shape h in
    record { token = found.0; is = found.1; fits = found.2 }

-- the tokens of several outputs
pub record TokensAt (tokens : List (List Token)) (ports : List BodyPort) (shapes : List Shape) : Type 0 where
  pub taken : List Token
  pub are : map (entry tokens) ports ≡ map Some taken
  pub fit : FitEach shapes taken

pub tokens_at_ports : (shapes : List (List Shape)) (tokens : List (List Token)) → RowsFit shapes tokens → (ports : List BodyPort) (ins : List Shape) → map (entry shapes) ports ≡ map Some ins → TokensAt tokens ports ins
tokens_at_ports shapes tokens fit [] [] h = record { taken = []; are = refl; fit = tt }
tokens_at_ports shapes tokens fit [] (shape ∷ ins) h = absurd cc
tokens_at_ports shapes tokens fit (p ∷ ports) [] h = absurd cc
tokens_at_ports shapes tokens fit (p ∷ ports) (shape ∷ ins) h =
    let first = token_at_port shapes tokens fit p shape (heads h).0 in
    let rest = tokens_at_ports shapes tokens fit ports ins (heads h).1 in
    record {
      taken = first.token ∷ rest.taken;
      are = ap (λ o. o ∷ map (entry tokens) ports) first.is ∙ ap (λ os. Some first.token ∷ os) rest.are;
      fit = (first.fits, rest.fit);
    }

pub somes_inj : {A : Type 0} (xs ys : List A) → map Some xs ≡ map Some ys → xs ≡ ys
somes_inj [] [] h = refl
somes_inj [] (y ∷ ys) h = absurd cc
somes_inj (x ∷ xs) [] h = absurd cc
somes_inj (x ∷ xs) (y ∷ ys) h = let e : x ≡ y = some_inj (heads h).0 in ap (λ z. z ∷ xs) e ∙ ap (λ zs. y ∷ zs) (somes_inj xs ys (heads h).1)
