-- The grammar of the command line: the words without the program's name, each as its bytes.
use Rattle.std.specs.Prelude.{◌≡◌, ◌↔◌, ℕ, ◌≤◌, ◌<◌, ◌^◌, ◌&&◌, nat_le, Bool, true, false, IsTrue, List, [], ◌∷◌, map, Option, Some, None, String, string_bytes, codes, bytes_eq, if◌then◌else◌}
use Rattle.std.specs.Option.{option_map}
use Rattle.std.specs.Fmt.{decimal}
use Rattle.std.specs.declared.alloc.Global.{Global}
use Rattle.port_types.specs.Numeral.{numeral_value}
use Rattle.commands.specs.declared.words.Command.{Command}
use Rattle.commands.specs.declared.words.Command.TheVariants.{Print, Strip, Gather, Unfold, Rewrite, Trace, Loops, Sim, Check, Gen}

-- the number, where it is from the least to the most
abbrev pub within : ℕ → ℕ → Option ℕ → Option ℕ
within least most None = None
within least most (Some number) = if nat_le least number && nat_le number most then Some number else None

-- the number from the least to the most that the word is a decimal numeral of
unfoldable pub number_in : ℕ → ℕ → List ℕ → Option ℕ
number_in least most word = within least most (numeral_value word)

-- a command that stands alone
unfoldable pub one_word : List ℕ → Option Command
one_word word =
    if bytes_eq word (codes "print") then Some Print
    else (if bytes_eq word (codes "strip") then Some Strip
    else (if bytes_eq word (codes "gather") then Some Gather
    else (if bytes_eq word (codes "unfold") then Some Unfold
    else (if bytes_eq word (codes "rewrite") then Some Rewrite
    else (if bytes_eq word (codes "trace") then Some Trace
    else (if bytes_eq word (codes "loops") then Some Loops
    else (if bytes_eq word (codes "sim") then Some (Sim 10000000)
    else (if bytes_eq word (codes "check") then Some Check else None))))))))

-- `sim LIMIT` and `gen N`
unfoldable pub with_number : List ℕ → List ℕ → Option Command
with_number word number =
    if bytes_eq word (codes "sim") then option_map Sim (number_in 0 10000000 number)
    else (if bytes_eq word (codes "gen") then option_map Gen (number_in 1 2000 number) else None)

-- a command of one word, or of a word and a number
abbrev pub named : List (List ℕ) → Option Command
named [] = None
named (word ∷ []) = one_word word
named (word ∷ number ∷ []) = with_number word number
named (word ∷ number ∷ other ∷ more) = None

-- the words without the first `--`
abbrev pub without_dashes : List (List ℕ) → List (List ℕ)
without_dashes [] = []
without_dashes (word ∷ words) = if bytes_eq word (codes "--") then words else word ∷ without_dashes words

-- at most one `--` is left out, wherever it stands
abbrev pub command_of : List (List ℕ) → Option Command
command_of words = named (without_dashes words)

-- the command that the words name
abbrev pub command_in : List (String Global) → Option Command
command_in words = command_of (map string_bytes words)

-- the commands that run today
abbrev pub runs : Command → Bool
runs Print = true
runs Strip = true
runs Gather = false
runs Unfold = false
runs Rewrite = false
runs Trace = false
runs Loops = false
runs (Sim limit) = false
runs Check = false
runs (Gen count) = false

-- the command runs, and reads the input, as each does but `gen`
abbrev pub Reads : Option Command → Type 0
Reads None = ⊥
Reads (Some (Gen count)) = ⊥
Reads (Some command) = IsTrue (runs command)

-- the words name a command that does not run yet
abbrev pub IsLater : Option Command → Type 0
IsLater None = ⊥
IsLater (Some command) = runs command ≡ false

-- the number of a word is found exactly where the word is written in decimal for a number of the range
abbrev pub TellsNumbers : Type 0
TellsNumbers = (least most n : ℕ) (word : List ℕ) → most < 2 ^ 64 →
    (number_in least most word ≡ Some n) ↔ ((least ≤ n) × (n ≤ most) × (word ≡ decimal n))
