-- A loop with lanes and a body of nodes, in a circuit of its own, and what it makes of tuples.
use Rattle.std.specs.Prelude.{◌≡◌, ◌⊎◌, ℕ, Bool, List, [], ◌∷◌, Some, map}
use Rattle.body_laws.specs.Bodies.{IsSteady}
use Rattle.circuits.specs.Circuit.{Circuit}
use Rattle.circuits.specs.Firing.{Fires}
use Rattle.circuits.specs.PortTokens.{Token, at_port, one}
use Rattle.circuits.specs.Replacing.{In}
use Rattle.components.specs.Kind.{Shape}
use Rattle.components.specs.Name.{Name, Port}
use Rattle.components.specs.declared.kind.Kind.{Kind}
use Rattle.components.specs.declared.kind.Kind.TheVariants.{Entry, Exit, Mux, Branch, Init}
use Rattle.circuits.specs.Root.{Root}
use Rattle.loop_laws.specs.Polarity.{fresh_in, back_in, exit_bit, back_bit, back_out, exit_out}
use Rattle.loop_laws.specs.Reached.{port_at}
use Rattle.port_types.specs.Token.{Fits}

-- a lane: its Mux and its Branch, the Entry of its new tokens and the Exit of its results
pub record LoopLane : Type 0 where
  pub mux : Name
  pub branch : Name
  pub entry : Name
  pub exit : Name
  pub shape : Shape

-- an output of a lane's Mux or of a body node
abbrev pub FromLoop : List LoopLane → List Name → Port → Type 0
FromLoop lanes body q = ((l : LoopLane) × In l lanes × (q ≡ port_at l.mux 1)) ⊎ In q.node body

-- the lane's Mux chooses by the mark's bits between new tokens and those that come back, and its Branch by the condition
pub record IsLoopLane (c : Circuit) (goes_back : Bool) (mark : Name) (lanes : List LoopLane) (body : List Name) (condition : Port) (l : LoopLane) : Type 0 where
  pub is_mux : c.kind_at l.mux ≡ Some (Mux l.shape)
  pub is_branch : c.kind_at l.branch ≡ Some (Branch l.shape)
  pub is_entry : c.kind_at l.entry ≡ Some (Entry l.shape)
  pub is_exit : c.kind_at l.exit ≡ Some (Exit l.shape)
  pub select : Root c (port_at l.mux 1) (port_at mark 1)
  pub fresh : c.feeder (port_at l.mux (fresh_in goes_back)) ≡ Some (port_at l.entry 1)
  pub back : Root c (port_at l.mux (back_in goes_back)) (port_at l.branch (back_out goes_back))
  pub next : Port
  pub is_next : c.feeder (port_at l.branch 1) ≡ Some next
  pub from_loop : FromLoop lanes body next
  pub decides : Root c (port_at l.branch 2) condition
  pub result : c.feeder (port_at l.exit 1) ≡ Some (port_at l.branch (exit_out goes_back))

-- n fires once a turn: a wire ties it to a lane, to the mark or to another such node
pub data FiresEachTurn (c : Circuit) (mark : Name) (lanes : List LoopLane) (body : List Name) : Name → Type 0 where
  after_lane : (p : Port) (l : LoopLane) → In l lanes → c.feeder p ≡ Some (port_at l.mux 1) → FiresEachTurn c mark lanes body p.node
  after : (p q : Port) → In q.node body → c.feeder p ≡ Some q → FiresEachTurn c mark lanes body q.node → FiresEachTurn c mark lanes body p.node
  before : (p q : Port) → In p.node body → c.feeder p ≡ Some q → FiresEachTurn c mark lanes body p.node → FiresEachTurn c mark lanes body q.node
  before_branch : (i : ℕ) (l : LoopLane) (q : Port) → In l lanes → c.feeder (port_at l.branch i) ≡ Some q → FiresEachTurn c mark lanes body q.node
  before_mark : (i : ℕ) (q : Port) → c.feeder (port_at mark i) ≡ Some q → FiresEachTurn c mark lanes body q.node

pub record IsLaneLoop (c : Circuit) (goes_back : Bool) (mark : Name) (lanes : List LoopLane) (body : List Name) (condition : Port) : Type 0 where
  pub tags : ℕ
  pub is_mark : c.kind_at mark ≡ Some (Init (exit_bit goes_back) tags)
  pub each_lane : (l : LoopLane) → In l lanes → IsLoopLane c goes_back mark lanes body condition l
  pub body_kind : (n : Name) → In n body → (k : Kind) × (c.kind_at n ≡ Some k) × IsSteady k
  pub inputs : (p q : Port) → In p.node body → c.feeder p ≡ Some q → FromLoop lanes body q
  pub ties : (n : Name) → In n body → FiresEachTurn c mark lanes body n
  pub condition_from : FromLoop lanes body condition
  pub decides_mark : Root c (port_at mark 1) condition

-- one firing of n takes and gives what the wires hold
pub record FiresWith (c : Circuit) (n : Name) (value : Port → Token) : Type 0 where
  pub kind : Kind
  pub is_kind : c.kind_at n ≡ Some kind
  pub taken : List (List Token)
  pub given : List (List Token)
  pub fires : Fires kind 0 [] taken given []
  pub takes : (i : ℕ) (q : Port) → c.feeder (port_at n i) ≡ Some q → at_port taken i ≡ one (value q)
  pub gives : (p : Port) (i : ℕ) → c.feeder p ≡ Some (port_at n i) → at_port given i ≡ one (value (port_at n i))

-- a token for each lane
abbrev pub Tuple : Type 0
Tuple = LoopLane → Token

abbrev pub TupleFits : List LoopLane → Tuple → Type 0
TupleFits lanes x = (l : LoopLane) → In l lanes → Fits l.shape (x l)

-- one turn makes of x the tuple y and the condition b: a token for each wire out of the lanes and the body, with which each body node fires once
pub record Turn (c : Circuit) (lanes : List LoopLane) (body : List Name) (condition : Port) (x y : Tuple) (b : Token) : Type 0 where
  pub fits : TupleFits lanes x
  pub next_fits : TupleFits lanes y
  pub value : Port → Token
  pub starts : (l : LoopLane) → In l lanes → value (port_at l.mux 1) ≡ x l
  pub fires : (n : Name) → In n body → FiresWith c n value
  pub next : (l : LoopLane) → In l lanes → (q : Port) → c.feeder (port_at l.branch 1) ≡ Some q → value q ≡ y l
  pub decides : value condition ≡ b

abbrev pub exit_token : Bool → Token
exit_token goes_back = exit_bit goes_back ∷ []

abbrev pub back_token : Bool → Token
back_token goes_back = back_bit goes_back ∷ []

-- begun with x, the loop ends with y
pub data LoopsTo (c : Circuit) (goes_back : Bool) (lanes : List LoopLane) (body : List Name) (condition : Port) (y : Tuple) : Tuple → Type 0 where
  ends : {x : Tuple} → Turn c lanes body condition x y (exit_token goes_back) → LoopsTo c goes_back lanes body condition y x
  turns : {x : Tuple} (z : Tuple) → Turn c lanes body condition x z (back_token goes_back) → LoopsTo c goes_back lanes body condition y z → LoopsTo c goes_back lanes body condition y x

abbrev pub AllLoopTo : Circuit → Bool → List LoopLane → List Name → Port → List Tuple → List Tuple → Type 0
AllLoopTo c goes_back lanes body condition [] [] = Unit {0}
AllLoopTo c goes_back lanes body condition [] (y ∷ ys) = ⊥
AllLoopTo c goes_back lanes body condition (x ∷ xs) [] = ⊥
AllLoopTo c goes_back lanes body condition (x ∷ xs) (y ∷ ys) = LoopsTo c goes_back lanes body condition y x × AllLoopTo c goes_back lanes body condition xs ys

-- the inputs are the columns of tuples, and the outputs the columns of what each of these loops to
pub record LoopsByTuples (c : Circuit) (goes_back : Bool) (lanes : List LoopLane) (body : List Name) (condition : Port) (ins outs : Name → List Token) : Type 0 where
  pub tuples : List Tuple
  pub results : List Tuple
  pub loops : AllLoopTo c goes_back lanes body condition tuples results
  pub columns : (l : LoopLane) → In l lanes → ins l.entry ≡ map (λ (x : Tuple). x l) tuples
  pub result_columns : (l : LoopLane) → In l lanes → outs l.exit ≡ map (λ (y : Tuple). y l) results
