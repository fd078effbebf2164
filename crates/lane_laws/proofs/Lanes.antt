-- values of several lanes before a node that takes them joined, and behind one
use Rattle.std.proofs.Common.{◌≡◌, refl, sym, ap, subst, ◌∙◌, true, false, Bool, if◌then◌else◌, length, map, List, [], ◌∷◌, ◌++◌, append-nil, append_assoc}
use Rattle.circuits.specs.Firing.{FitEach}
use Rattle.circuits.specs.PortTokens.{Token, at_port, one}
use Rattle.components.specs.Kind.{Shape}
use Rattle.port_types.specs.Token.{Fits}
use Rattle.std.specs.List.{concat, AllByRecursion}
use Rattle.circuit_plans.proofs.Places.{Place, item, number, same_place, same_place_is}
use Rattle.circuit_plans.proofs.Tuples.{column, column_more, joined_more, each_more, joined_same, fit_each}
use Rattle.circuits.proofs.Lists.{each_left, each_right}

module _ (lanes : List Shape) where
  abbrev pub Cells : Type 0
  Cells = Place lanes → List Token

  abbrev pub part_of : List Token → Cells
  part_of vs l = at_port (map one vs) (number lanes l)

  -- tuples at the head of the one node come apart into what the lanes' nodes hold, and behind them comes what is not yet joined
  pub record Before (cells joins : Cells) (head : List Token) : Type 0 where
    tuples : List (List Token)
    fit : AllByRecursion (FitEach lanes) tuples
    head_is : head ≡ map concat tuples
    cells_are : (l : Place lanes) → cells l ≡ column (number lanes l) tuples ++ joins l

  pub before_none : (cells joins : Cells) → ((l : Place lanes) → cells l ≡ []) → ((l : Place lanes) → joins l ≡ []) → Before cells joins []
  before_none cells joins e f = record { tuples = []; fit = tt; head_is = refl; cells_are = λ l. e l ∙ sym (f l) }

  -- the lanes are fed
  pub before_fed : (cells joins new_cells new_joins fed : Cells) (head new_head : List Token) → ((l : Place lanes) → new_cells l ≡ cells l ++ fed l) → ((l : Place lanes) → new_joins l ≡ joins l ++ fed l) → new_head ≡ head → Before cells joins head → Before new_cells new_joins new_head
  before_fed cells joins new_cells new_joins fed head new_head e f g b =
      record {
        tuples = b.tuples;
        fit = b.fit;
        head_is = g ∙ b.head_is;
        cells_are = λ l.
            e l ∙ ap (λ z. z ++ fed l) (b.cells_are l) ∙ append_assoc (column (number lanes l) b.tuples) (joins l) (fed l)
            ∙ ap (λ z. column (number lanes l) b.tuples ++ z) (sym (f l));
      }

  -- nothing changes
  pub before_same : (cells joins new_cells new_joins : Cells) (head new_head : List Token) → ((l : Place lanes) → new_cells l ≡ cells l) → ((l : Place lanes) → new_joins l ≡ joins l) → new_head ≡ head → Before cells joins head → Before new_cells new_joins new_head
  before_same cells joins new_cells new_joins head new_head e f g b =
      record {
        tuples = b.tuples;
        fit = b.fit;
        head_is = g ∙ b.head_is;
        cells_are = λ l. e l ∙ b.cells_are l ∙ ap (λ z. column (number lanes l) b.tuples ++ z) (sym (f l));
      }

  -- the lanes' values are joined
  pub before_joined : (cells joins new_joins : Cells) (head new_head : List Token) (vs : List Token) → length vs ≡ length lanes → ((l : Place lanes) → AllByRecursion (Fits (item lanes l)) (cells l)) → ((l : Place lanes) → joins l ≡ part_of vs l ++ new_joins l) → new_head ≡ head ++ one (concat vs) → Before cells joins head → Before cells new_joins new_head
  before_joined cells joins new_joins head new_head vs len fits e g b =
      let all : (l : Place lanes) → cells l ≡ column (number lanes l) b.tuples ++ (part_of vs l ++ new_joins l) =
      λ l. b.cells_are l ∙ ap (λ z. column (number lanes l) b.tuples ++ z) (e l) in
      let fit : FitEach lanes vs =
      fit_each lanes vs len
      (λ l. each_left (Fits (item lanes l)) (part_of vs l) (new_joins l)
      (each_right (Fits (item lanes l)) (column (number lanes l) b.tuples) (part_of vs l ++ new_joins l) (subst (AllByRecursion (Fits (item lanes l))) (all l) (fits l)))) in
      record {
        tuples = b.tuples ++ vs ∷ [];
        fit = each_more (FitEach lanes) b.tuples vs b.fit fit;
        head_is = g ∙ ap (λ z. z ++ one (concat vs)) b.head_is ∙ sym (joined_more b.tuples vs);
        cells_are = λ l.
            all l ∙ sym (append_assoc (column (number lanes l) b.tuples) (part_of vs l) (new_joins l))
            ∙ ap (λ z. z ++ new_joins l) (sym (column_more (number lanes l) b.tuples vs));
      }

  -- the first tuple, where the one node takes v
  pub record Next (cells joins : Cells) (v : Token) (new_head : List Token) : Type 0 where
    pub tuple : List Token
    pub fit : FitEach lanes tuple
    pub joined_is : concat tuple ≡ v
    pub left : Cells
    pub cells_are : (l : Place lanes) → cells l ≡ part_of tuple l ++ left l
    pub before : Before left joins new_head

  next_at : (cells joins : Cells) (v : Token) (new_head : List Token) (ts : List (List Token)) → AllByRecursion (FitEach lanes) ts → v ∷ new_head ≡ map concat ts → ((l : Place lanes) → cells l ≡ column (number lanes l) ts ++ joins l) → Next cells joins v new_head
  next_at cells joins v new_head [] fit h e = cc
  next_at cells joins v new_head (vs ∷ ws) fit h e =
      record {
        tuple = vs;
        fit = fit.0;
        joined_is = cc;
        left = λ l. column (number lanes l) ws ++ joins l;
        cells_are = λ l. e l ∙ append_assoc (part_of vs l) (column (number lanes l) ws) (joins l);
        before = record { tuples = ws; fit = fit.1; head_is = cc; cells_are = λ l. refl };
      }

  pub before_next : (cells joins : Cells) (head : List Token) (v : Token) (new_head : List Token) → head ≡ v ∷ new_head → Before cells joins head → Next cells joins v new_head
  before_next cells joins head v new_head e b = next_at cells joins v new_head b.tuples b.fit (sym e ∙ b.head_is) b.cells_are

  -- what the lanes' nodes gave is at the Exits, where the tuples at the head of the Split come behind what it gave
  pub record Behind (cells exits : Cells) (head : List Token) : Type 0 where
    tuples : List (List Token)
    fit : AllByRecursion (FitEach lanes) tuples
    head_is : head ≡ map concat tuples
    cells_are : (l : Place lanes) → cells l ≡ exits l ++ column (number lanes l) tuples

  pub behind_none : (cells exits : Cells) → ((l : Place lanes) → cells l ≡ []) → ((l : Place lanes) → exits l ≡ []) → Behind cells exits []
  behind_none cells exits e f = record { tuples = []; fit = tt; head_is = refl; cells_are = λ l. e l ∙ sym (append-nil (exits l) ∙ f l) }

  pub behind_same : (cells exits new_cells new_exits : Cells) (head new_head : List Token) → ((l : Place lanes) → new_cells l ≡ cells l) → ((l : Place lanes) → new_exits l ≡ exits l) → new_head ≡ head → Behind cells exits head → Behind new_cells new_exits new_head
  behind_same cells exits new_cells new_exits head new_head e f g b =
      record {
        tuples = b.tuples;
        fit = b.fit;
        head_is = g ∙ b.head_is;
        cells_are = λ l. e l ∙ b.cells_are l ∙ ap (λ z. z ++ column (number lanes l) b.tuples) (sym (f l));
      }

  -- a tuple more
  pub behind_given : (cells exits new_cells new_exits : Cells) (head new_head : List Token) (vs : List Token) (v : Token) → FitEach lanes vs → concat vs ≡ v → ((l : Place lanes) → new_cells l ≡ cells l ++ part_of vs l) → ((l : Place lanes) → new_exits l ≡ exits l) → new_head ≡ head ++ one v → Behind cells exits head → Behind new_cells new_exits new_head
  behind_given cells exits new_cells new_exits head new_head vs v fit is e f g b =
      record {
        tuples = b.tuples ++ vs ∷ [];
        fit = each_more (FitEach lanes) b.tuples vs b.fit fit;
        head_is = g ∙ (λ j. b.head_is j ++ one (sym is j)) ∙ sym (joined_more b.tuples vs);
        cells_are = λ l.
            e l ∙ ap (λ z. z ++ part_of vs l) (b.cells_are l) ∙ append_assoc (exits l) (column (number lanes l) b.tuples) (part_of vs l)
            ∙ (λ j. sym (f l) j ++ sym (column_more (number lanes l) b.tuples vs) j);
      }

  -- the Split fires
  split_at : (cells exits new_exits : Cells) (new_head : List Token) (vs : List Token) → FitEach lanes vs → ((l : Place lanes) → new_exits l ≡ exits l ++ part_of vs l) → (ts : List (List Token)) → AllByRecursion (FitEach lanes) ts → concat vs ∷ new_head ≡ map concat ts → ((l : Place lanes) → cells l ≡ exits l ++ column (number lanes l) ts) → Behind cells new_exits new_head
  split_at cells exits new_exits new_head vs fit f [] each h e = cc
  split_at cells exits new_exits new_head vs fit f (xs ∷ ws) each h e =
      let same : vs ≡ xs = joined_same lanes vs xs fit each.0 (let k : concat vs ≡ concat xs = cc in k) in
      record {
        tuples = ws;
        fit = each.1;
        head_is = cc;
        cells_are = λ l.
            e l ∙ sym (append_assoc (exits l) (part_of xs l) (column (number lanes l) ws))
            ∙ ap (λ z. z ++ column (number lanes l) ws) (ap (λ z. exits l ++ part_of z l) (sym same) ∙ sym (f l));
      }

  pub behind_split : (cells exits new_exits : Cells) (head new_head : List Token) (vs : List Token) → FitEach lanes vs → head ≡ concat vs ∷ new_head → ((l : Place lanes) → new_exits l ≡ exits l ++ part_of vs l) → Behind cells exits head → Behind cells new_exits new_head
  behind_split cells exits new_exits head new_head vs fit e f b = split_at cells exits new_exits new_head vs fit f b.tuples b.fit (sym e ∙ b.head_is) b.cells_are

  -- a token is taken at the Exit of lane k
  pub record Taken (cells new_exits : Cells) (k : Place lanes) (v : Token) (new_head : List Token) : Type 0 where
    pub left : List Token
    pub cell_is : cells k ≡ v ∷ left
    pub behind : Behind (λ l. (if same_place lanes l k then left else cells l) ++ []) new_exits new_head

  taken_at : (cells exits new_exits : Cells) (k l : Place lanes) (left later : List Token) → (same_place lanes l k ≡ false → new_exits l ≡ exits l) → (l ≡ k → left ≡ new_exits l ++ later) → cells l ≡ exits l ++ later → (b : Bool) → same_place lanes l k ≡ b → (if b then left else cells l) ++ [] ≡ new_exits l ++ later
  taken_at cells exits new_exits k l left later kept here e true f = append-nil left ∙ here (same_place_is lanes l k f)
  taken_at cells exits new_exits k l left later kept here e false f = append-nil (cells l) ∙ e ∙ ap (λ z. z ++ later) (sym (kept f))

  pub behind_taken : (cells exits new_exits : Cells) (head new_head : List Token) (k : Place lanes) (v : Token) → exits k ≡ v ∷ new_exits k → ((l : Place lanes) → same_place lanes l k ≡ false → new_exits l ≡ exits l) → new_head ≡ head → Behind cells exits head → Taken cells new_exits k v new_head
  behind_taken cells exits new_exits head new_head k v e kept g b =
      let left : List Token = new_exits k ++ column (number lanes k) b.tuples in
      record {
        left = left;
        cell_is = b.cells_are k ∙ ap (λ z. z ++ column (number lanes k) b.tuples) e;
        behind = record {
          tuples = b.tuples;
          fit = b.fit;
          head_is = g ∙ b.head_is;
          cells_are = λ l.
              taken_at cells exits new_exits k l left (column (number lanes l) b.tuples) (kept l)
              (λ is. λ j. new_exits (sym is j) ++ column (number lanes (sym is j)) b.tuples) (b.cells_are l) (same_place lanes l k) refl;
        };
      }
