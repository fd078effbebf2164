-- The keywords, and the token of a bare word.
use Rattle.std.specs.Prelude.{ℕ, List, Option, Some, None, bytes_eq, if◌then◌else◌, codes, unwrap_or}
use Rattle.std.specs.Str.{str_to_ascii_lowercase}
pub use Rattle.dot_text.specs.declared.token.Token.{Token}
pub use Rattle.dot_text.specs.declared.token.Token.TheVariants.{Id, Digraph, Subgraph, Default, Strict, Open, Close, OpenList, CloseList, Semicolon, Comma, Equals, Arrow}

-- the keyword that the bytes are, in any case
abbrev pub keyword : List ℕ → Option Token
keyword w =
    let lower = str_to_ascii_lowercase w in
    if bytes_eq lower (codes "digraph") then Some Digraph
    else (if bytes_eq lower (codes "subgraph") then Some Subgraph
    else (if bytes_eq lower (codes "graph") then Some Default
    else (if bytes_eq lower (codes "node") then Some Default
    else (if bytes_eq lower (codes "edge") then Some Default
    else (if bytes_eq lower (codes "strict") then Some Strict
    else None)))))

-- the token of a bare word: a keyword in any case, else an ID
abbrev pub word_token : List ℕ → Token
word_token w = unwrap_or (keyword w) (Id w)
