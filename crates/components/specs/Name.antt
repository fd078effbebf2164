-- Names of nodes, ports by the names of their nodes, and their orders.
use Rattle.std.specs.Prelude.{◌≢◌, ℕ, zero, suc, ◌≤◌, List, [], ◌∷◌, length, All, Option, Some, None}
use Rattle.std.specs.Ordering.{nat_cmp, ordering_then}
use Rattle.std.specs.declared.cmp.Ordering.{Ordering}
use Rattle.std.specs.Cmp.Lexicographic.{slice_cmp}
use Rattle.std.specs.Str.{IsUtf8}

-- a node's name, by its bytes
abbrev pub Name : Type 0
Name = List ℕ

-- the order of bytes
abbrev pub name_cmp : Name → Name → Ordering
name_cmp = slice_cmp nat_cmp

-- no blank or other byte below 33, no double quote and no backslash
abbrev pub IsNameByte : ℕ → Type 0
IsNameByte byte = (33 ≤ byte) × (byte ≢ 34) × (byte ≢ 92)

-- what a node may be called
pub record IsName (name : Name) : Type 0 where
  pub some : 1 ≤ length name
  pub few : length name ≤ 255
  pub bytes : All IsNameByte name
  pub utf8 : IsUtf8 name

-- a port of a node, on one side; the ports of a side are counted from 1
pub record Port : Type 0 where
  pub node : Name
  pub port : ℕ

-- by the names of the nodes, and then by number
abbrev pub port_cmp : Port → Port → Ordering
port_cmp p q = ordering_then (name_cmp p.node q.node) (nat_cmp p.port q.port)

-- what stands in a list at port i
abbrev pub port_get : {A : Type 0} → List A → ℕ → Option A
port_get [] i = None
port_get (x ∷ xs) zero = None
port_get (x ∷ xs) (suc zero) = Some x
port_get (x ∷ xs) (suc (suc i)) = port_get xs (suc i)
