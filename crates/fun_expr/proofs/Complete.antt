-- A reader goes over each text of the grammar, counts its expressions and builds them.
use Rattle.std.proofs.Common.{◌≡◌, ◌==◌, ◌≤◌, ◌+◌, max, ℕ, suc, List, [], ◌∷◌, ◌++◌, true, false, not, cond, length, map, Option, Some, refl, ap, sym, ◌∙◌, arith, append_assoc}
use Rattle.std.specs.Prelude.{codes}
use Rattle.std.specs.Char.{is_ascii_digit}
use Rattle.std.specs.List.{join_with_byte, flat_map}
use Rattle.std.proofs.lemmas.List.{append-nil}
use Rattle.std.proofs.lemmas.Bool.Decides.{nat_tests}
use Rattle.op_table.specs.declared.op.Op.{Op}
use Rattle.op_table.specs.Operator.{op_word}
use Rattle.port_types.specs.Numeral.{in_word}
use Rattle.fun_expr.specs.Each.{total, largest}
use Rattle.fun_expr.specs.Expr.{expr_size, expr_depth}
use Rattle.fun_expr.specs.declared.expr.Expr.{Expr}
use Rattle.fun_expr.specs.declared.expr.Expr.TheVariants.{Field, Lit, Apply}
use Rattle.fun_expr.specs.declared.state.Number.TheVariants.{Place, Literal, OperatorWidth, Out}
use Rattle.fun_expr.specs.declared.state.Spot.TheVariants.{Start, Expression, Digits, Closed, Spaced, Dash, Arrow, Gap}
use Rattle.fun_expr.specs.declared.scan.Extent.{Extent}
use Rattle.fun_expr.specs.declared.builder.Frame.{Frame}
use Rattle.fun_expr.specs.Machine.{leads, behind, expression, numeral_on, held_width}
use Rattle.fun_expr.specs.Counting.{with_expression, nothing_counted}
use Rattle.fun_expr.specs.Building.{Parts, held_place, literal, add, added, closing, no_parts}
use Rattle.fun_expr.specs.FunGrammar.{Spells, SpellEach, spells_field, spells_lit, spells_apply, no_more, and_more, Numerals, joined_binds, IsFunText}
use Rattle.fun_expr.specs.FunGrammar as grammar
use Rattle.fun_expr.proofs.Trees.{size-field, size-lit, depth-field, depth-lit, depth-apply}
use Rattle.fun_expr.proofs.Sizes.{size_of_apply}
use Rattle.fun_expr.proofs.OneText.{lit_text, apply_text, numeral_begins, word_begins}
use Rattle.fun_expr.proofs.Held.{held, held-field, held-lit, held-apply}
use Rattle.fun_expr.proofs.Running.{Reader, reader, follow, reads, ReadsWhole}
use Rattle.fun_expr.proofs.NumeralRuns.{numeral_run, literal_run, name_run}

-- what is counted of expressions within so many operators
abbrev extent_of : ℕ → ℕ → Extent
extent_of size depth = record { size = size; depth = depth }

abbrev pub grown : ℕ → Expr → Extent → Extent
grown k e x = extent_of (x.size + expr_size e) (max x.depth (k + expr_depth e))

abbrev pub grown_all : ℕ → List Expr → Extent → Extent
grown_all k [] x = x
grown_all k (e ∷ es) x = grown_all k es (grown k e x)

same_extent : (x y : Extent) → x.size ≡ y.size → x.depth ≡ y.depth → x ≡ y
same_extent x y s d = ap (λ n. extent_of n x.depth) s ∙ ap (extent_of y.size) d

pub size_all : (k : ℕ) (es : List Expr) (x : Extent) → (grown_all k es x).size ≡ x.size + total expr_size es
size_all k [] x = omega arith
size_all k (e ∷ es) x = omega (arith, size_all k es (grown k e x))

pub depth_all : (k : ℕ) (es : List Expr) (x : Extent) → k ≤ x.depth → (grown_all k es x).depth ≡ max x.depth (k + largest (map expr_depth es))
depth_all k [] x h = omega arith
depth_all k (e ∷ es) x h = omega (arith, depth_all k es (grown k e x) (omega arith))

grown_field : (k place : ℕ) (x : Extent) → with_expression k x ≡ grown k (Field place) x
grown_field k place x = same_extent (with_expression k x) (grown k (Field place) x) (omega (arith, size-field place)) (omega (arith, depth-field place))

grown_lit : (k width number : ℕ) (x : Extent) → with_expression k x ≡ grown k (Lit width number) x
grown_lit k width number x = same_extent (with_expression k x) (grown k (Lit width number) x) (omega (arith, size-lit width number)) (omega (arith, depth-lit width number))

grown_apply : (k : ℕ) (op : Op) (width : ℕ) (args : List Expr) (x : Extent) → grown_all (suc k) args (with_expression k x) ≡ grown k (Apply op width args) x
grown_apply k op width args x =
    same_extent (grown_all (suc k) args (with_expression k x)) (grown k (Apply op width args) x)
    (omega (arith, size_all (suc k) args (with_expression k x), size_of_apply (Apply op width args) op width args args refl refl))
    (omega (arith, depth_all (suc k) args (with_expression k x) (omega arith), depth-apply op width args))

-- behind the last numeral of an expression a byte that is no digit does what it does behind the expression
place_end : (k : ℕ) (x : Extent) (p : Parts) (value : Option ℕ) (b : ℕ) (rest : List ℕ) → is_ascii_digit b ≡ false →
    reads (Some (reader (Digits Place value) k x p)) (b ∷ rest) ≡ reads (Some (reader Closed k x (add (Field (held_place value)) p))) (b ∷ rest)
place_end k x p value b rest h =
    ap (λ t. reads (follow x (cond t p (closing b (add (Field (held_place value)) p))) (cond t (numeral_on Place value k b) (behind k b))) rest) h

literal_end : (k : ℕ) (x : Extent) (p : Parts) (width : ℕ) (value : Option ℕ) (b : ℕ) (rest : List ℕ) → is_ascii_digit b ≡ false →
    reads (Some (reader (Digits (Literal width) value) k x p)) (b ∷ rest) ≡ reads (Some (reader Closed k x (add (literal width value) p))) (b ∷ rest)
literal_end k x p width value b rest h =
    ap (λ t. reads (follow x (cond t p (closing b (add (literal width value) p))) (cond t (numeral_on (Literal width) value k b) (behind k b))) rest) h

abbrev pub parts : List Frame → List Expr → List ℕ → Parts
parts frames binds outs = record { frames = frames; binds = binds; outs = outs }

abbrev frame : Op → ℕ → List Expr → Frame
frame op width args = record { op = op; width = width; args = args }

mutual
  pub one : (piece : List ℕ) (e : Expr) → Spells piece e → (k : ℕ) (x : Extent) (p : Parts) (b : ℕ) (rest : List ℕ) → is_ascii_digit b ≡ false →
      reads (Some (reader Expression k x p)) (piece ++ b ∷ rest) ≡ reads (Some (reader Closed k (grown k e x) (add (held e) p))) (b ∷ rest)
  one _ _ (spells_field word place n) k x p b rest h =
      numeral_run Place k (with_expression k x) p word place n (b ∷ rest)
      ∙ place_end k (with_expression k x) p (in_word place) b rest h
      ∙ ap (λ e. reads (Some (reader Closed k (with_expression k x) (add e p))) (b ∷ rest)) (sym (held-field place))
      ∙ ap (λ y. reads (Some (reader Closed k y (add (held (Field place)) p))) (b ∷ rest)) (grown_field k place x)
  one _ _ (spells_lit first second width number n m) k x p b rest h =
      ap (reads (Some (reader Expression k x p))) (lit_text first (codes "'") second (b ∷ rest))
      ∙ literal_run k x p first width n (39 ∷ (second ++ b ∷ rest))
      ∙ numeral_run (Literal (held_width (in_word width))) k (with_expression k x) p second number m (b ∷ rest)
      ∙ literal_end k (with_expression k x) p (held_width (in_word width)) (in_word number) b rest h
      ∙ ap (λ e. reads (Some (reader Closed k (with_expression k x) (add e p))) (b ∷ rest)) (sym (held-lit width number))
      ∙ ap (λ y. reads (Some (reader Closed k y (add (held (Lit width number)) p))) (b ∷ rest)) (grown_lit k width number x)
  one _ _ (spells_apply op word width pieces args n some each) k x p b rest h =
      ap (reads (Some (reader Expression k x p))) (apply_text (op_word op) (codes ":") word (codes "(") (join_with_byte 44 pieces) (codes ")") (b ∷ rest))
      ∙ name_run op k x p (word ++ (40 ∷ (join_with_byte 44 pieces ++ (41 ∷ b ∷ rest))))
      ∙ numeral_run (OperatorWidth op) k (with_expression k x) p word width n (40 ∷ (join_with_byte 44 pieces ++ (41 ∷ b ∷ rest)))
      ∙ many pieces args each some k (with_expression k x) op (held_width (in_word width)) [] p.frames p.binds p.outs (b ∷ rest)
      ∙ ap (λ e. reads (Some (reader Closed k (grown_all (suc k) args (with_expression k x)) (add e p))) (b ∷ rest)) (sym (held-apply op width args))
      ∙ ap (λ y. reads (Some (reader Closed k y (add (held (Apply op width args)) p))) (b ∷ rest)) (grown_apply k op width args x)

  many : (pieces : List (List ℕ)) (args : List Expr) → SpellEach pieces args → 1 ≤ length args → (k : ℕ) (x : Extent) (op : Op) (width : ℕ) (done : List Expr) (frames : List Frame) (binds : List Expr) (outs rest : List ℕ) →
      reads (Some (reader Expression (suc k) x (parts (frame op width done ∷ frames) binds outs))) (join_with_byte 44 pieces ++ 41 ∷ rest)
      ≡ reads (Some (reader Closed k (grown_all (suc k) args x) (added (Apply op width (done ++ map held args)) frames binds outs))) rest
  many _ _ no_more some k x op width done frames binds outs rest = absurd (omega arith)
  many _ _ (and_more p e _ _ s no_more) some k x op width done frames binds outs rest =
      one p e s (suc k) x (parts (frame op width done ∷ frames) binds outs) 41 rest refl
  many _ _ (and_more p e _ _ s (and_more q f qs fs t ts)) some k x op width done frames binds outs rest =
      let start = reader Expression (suc k) x (parts (frame op width done ∷ frames) binds outs) in
      ap (reads (Some start)) (append_assoc p (44 ∷ join_with_byte 44 (q ∷ qs)) (41 ∷ rest))
      ∙ one p e s (suc k) x (parts (frame op width done ∷ frames) binds outs) 44 (join_with_byte 44 (q ∷ qs) ++ 41 ∷ rest) refl
      ∙ many (q ∷ qs) (f ∷ fs) (and_more q f qs fs t ts) (omega arith) k (grown (suc k) e x) op width (done ++ held e ∷ []) frames binds outs rest
      ∙ ap (λ es. reads (Some (reader Closed k (grown_all (suc k) (f ∷ fs) (grown (suc k) e x)) (added (Apply op width es) frames binds outs))) rest)
      (append_assoc done (held e ∷ []) (map held (f ∷ fs)))

-- binds, and the space behind them
binds_run : (pieces : List (List ℕ)) (es : List Expr) → SpellEach pieces es → 1 ≤ length es → (x : Extent) (binds : List Expr) (rest : List ℕ) →
    reads (Some (reader Expression 0 x (parts [] binds []))) (join_with_byte 59 pieces ++ 32 ∷ rest) ≡ reads (Some (reader Spaced 0 (grown_all 0 es x) (parts [] (binds ++ map held es) []))) rest
binds_run _ _ no_more some x binds rest = absurd (omega arith)
binds_run _ _ (and_more p e _ _ s no_more) some x binds rest = one p e s 0 x (parts [] binds []) 32 rest refl
binds_run _ _ (and_more p e _ _ s (and_more q f qs fs t ts)) some x binds rest =
    ap (reads (Some (reader Expression 0 x (parts [] binds [])))) (append_assoc p (59 ∷ join_with_byte 59 (q ∷ qs)) (32 ∷ rest))
    ∙ one p e s 0 x (parts [] binds []) 59 (join_with_byte 59 (q ∷ qs) ++ 32 ∷ rest) refl
    ∙ binds_run (q ∷ qs) (f ∷ fs) (and_more q f qs fs t ts) (omega arith) (grown 0 e x) (binds ++ held e ∷ []) rest
    ∙ ap (λ bs. reads (Some (reader Spaced 0 (grown_all 0 (f ∷ fs) (grown 0 e x)) (parts [] bs []))) rest) (append_assoc binds (held e ∷ []) (map held (f ∷ fs)))

-- the first byte of a text, which is no dash
pub record First (text : List ℕ) : Type 0 where
  pub byte : ℕ
  pub rest : List ℕ
  pub is : text ≡ byte ∷ rest
  pub no_dash : (byte == 45) ≡ false

digit_no_dash : (d : ℕ) → is_ascii_digit d ≡ true → (d == 45) ≡ false
digit_no_dash d is = grind (arith, nat_tests)

pub first_of : (piece : List ℕ) (e : Expr) → Spells piece e → First piece
first_of _ _ (spells_field word place n) = record { byte = 35; rest = word; is = refl; no_dash = refl }
first_of _ _ (spells_lit first second width number n m) =
    let d = numeral_begins first n.is in
    record { byte = d.byte; rest = d.rest ++ (39 ∷ second); is = append_assoc first (codes "'") second ∙ ap (λ w. w ++ (39 ∷ second)) d.is; no_dash = digit_no_dash d.byte d.digit }
first_of _ _ (spells_apply op word width pieces args n some each) =
    let b = word_begins op in
    let more = codes ":" ++ (word ++ (codes "(" ++ (join_with_byte 44 pieces ++ (codes ")" ++ [])))) in
    record {
      byte = b.byte;
      rest = b.rest ++ more;
      is = sym (append-nil (op_word op ++ codes ":" ++ word ++ codes "(" ++ join_with_byte 44 pieces ++ codes ")")) ∙ apply_text (op_word op) (codes ":") word (codes "(") (join_with_byte 44 pieces) (codes ")") [] ∙ ap (λ w. w ++ more) b.is;
      no_dash = b.no_dash;
    }

first_joined : (p : List ℕ) (ps : List (List ℕ)) → First p → First (join_with_byte 59 (p ∷ ps))
first_joined p [] f = f
first_joined p (q ∷ ps) f = record { byte = f.byte; rest = f.rest ++ 59 ∷ join_with_byte 59 (q ∷ ps); is = ap (λ w. w ++ 59 ∷ join_with_byte 59 (q ∷ ps)) f.is; no_dash = f.no_dash }

-- at the start an expression begins as it does elsewhere
start_same : (x : Extent) (p : Parts) (text more : List ℕ) → First text → reads (Some (reader Start 0 x p)) (text ++ more) ≡ reads (Some (reader Expression 0 x p)) (text ++ more)
start_same x p text more f =
    ap (λ t. reads (Some (reader Start 0 x p)) (t ++ more)) f.is
    ∙ ap (λ t. reads (follow (cond (not t) (with_expression 0 x) x) p (cond t (leads Dash 0) (expression 0 f.byte))) (f.rest ++ more)) f.no_dash
    ∙ ap (λ t. reads (Some (reader Expression 0 x p)) (t ++ more)) (sym f.is)

-- behind a front
from_there : (r s : Reader) (text rest : List ℕ) (x : Extent) (p : Parts) → reads (Some r) text ≡ reads (Some s) rest → ReadsWhole s rest x p → ReadsWhole r text x p
from_there r s text rest x p h w = record { last = w.last; is = h ∙ w.is; whole = w.whole; counts = w.counts; builds = w.builds }

abbrev pub held_out : ℕ → ℕ
held_out out = held_place (in_word out)

abbrev pub outs_of : List (List ℕ) → List ℕ
outs_of words = flat_map (λ word. codes " #" ++ word) words

gap_run : (words : List (List ℕ)) (outs word : List ℕ) (n : ℕ) → grammar.Numeral word n → Numerals words outs → (x : Extent) (binds : List Expr) (done : List ℕ) →
    ReadsWhole (reader Gap 0 x (parts [] binds done)) (35 ∷ (word ++ outs_of words)) x (parts [] binds (done ++ map held_out (n ∷ outs)))
gap_run [] [] word n is all x binds done = record {
  last = reader (Digits Out (in_word n)) 0 x (parts [] binds done);
  is = numeral_run Out 0 x (parts [] binds done) word n is [];
  whole = refl;
  counts = refl;
  builds = refl;
}
gap_run [] (m ∷ outs) word n is all x binds done = absurd all
gap_run (w ∷ words) [] word n is all x binds done = absurd all
gap_run (w ∷ words) (m ∷ outs) word n is all x binds done =
    let next = gap_run words outs w m all.0 all.1 x binds (done ++ held_out n ∷ []) in
    record {
      last = next.last;
      is = numeral_run Out 0 x (parts [] binds done) word n is (32 ∷ 35 ∷ (w ++ outs_of words)) ∙ next.is;
      whole = next.whole;
      counts = next.counts;
      builds = next.builds ∙ ap (parts [] binds) (append_assoc done (held_out n ∷ []) (map held_out (m ∷ outs)));
    }

outs_run : (words : List (List ℕ)) (outs : List ℕ) → Numerals words outs → (x : Extent) (binds : List Expr) →
    ReadsWhole (reader Arrow 0 x (parts [] binds [])) (outs_of words) x (parts [] binds (map held_out outs))
outs_run [] [] all x binds = record { last = reader Arrow 0 x (parts [] binds []); is = refl; whole = refl; counts = refl; builds = refl }
outs_run [] (m ∷ outs) all x binds = absurd all
outs_run (w ∷ words) [] all x binds = absurd all
outs_run (w ∷ words) (m ∷ outs) all x binds =
    from_there (reader Arrow 0 x (parts [] binds [])) (reader Gap 0 x (parts [] binds [])) (outs_of (w ∷ words)) (35 ∷ (w ++ outs_of words)) x (parts [] binds (map held_out (m ∷ outs))) refl
    (gap_run words outs w m all.0 all.1 x binds [])

joined_text : (joined outs : List ℕ) → ((joined ++ codes " ") ++ codes "->") ++ outs ≡ joined ++ (32 ∷ 45 ∷ 62 ∷ outs)
joined_text joined outs = simp append_assoc

text_run : (pieces : List (List ℕ)) (binds : List Expr) (words : List (List ℕ)) (outs : List ℕ) → SpellEach pieces binds → Numerals words outs →
    ReadsWhole (reader Start 0 nothing_counted no_parts) (joined_binds pieces ++ codes "->" ++ outs_of words) (grown_all 0 binds nothing_counted) (parts [] (map held binds) (map held_out outs))
text_run _ _ words outs no_more all =
    from_there (reader Start 0 nothing_counted no_parts) (reader Arrow 0 nothing_counted no_parts) (45 ∷ 62 ∷ outs_of words) (outs_of words) nothing_counted (parts [] [] (map held_out outs)) refl
    (outs_run words outs all nothing_counted [])
text_run _ _ words outs (and_more p e ps es s ss) all =
    let joined = join_with_byte 59 (p ∷ ps) in
    let whole = grown_all 0 (e ∷ es) nothing_counted in
    from_there (reader Start 0 nothing_counted no_parts) (reader Arrow 0 whole (parts [] (map held (e ∷ es)) [])) (joined_binds (p ∷ ps) ++ codes "->" ++ outs_of words) (outs_of words) whole (parts [] (map held (e ∷ es)) (map held_out outs))
    (ap (reads (Some (reader Start 0 nothing_counted no_parts))) (joined_text joined (outs_of words))
    ∙ start_same nothing_counted no_parts joined (32 ∷ 45 ∷ 62 ∷ outs_of words) (first_joined p ps (first_of p e s))
    ∙ binds_run (p ∷ ps) (e ∷ es) (and_more p e ps es s ss) (omega arith) nothing_counted [] (45 ∷ 62 ∷ outs_of words))
    (outs_run words outs all whole (map held (e ∷ es)))

pub complete : (text : List ℕ) (binds : List Expr) (outs : List ℕ) → IsFunText text binds outs →
    ReadsWhole (reader Start 0 nothing_counted no_parts) text (grown_all 0 binds nothing_counted) (parts [] (map held binds) (map held_out outs))
complete text binds outs t =
    let w = text_run t.pieces binds t.words outs t.spell_binds t.spell_outs in
    record { last = w.last; is = ap (reads (Some (reader Start 0 nothing_counted no_parts))) t.is ∙ w.is; whole = w.whole; counts = w.counts; builds = w.builds }
