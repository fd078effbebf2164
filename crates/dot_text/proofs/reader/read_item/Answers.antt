use Rattle.std.proofs.Common.{sym}
use Rattle.std.proofs.lemmas.Str.{IsUtf8-from_is_utf8}
use Rattle.dot_text.proofs.reader.read_item.Goals as goal

pub text_of-id-requires : goal.text_of-id-requires
text_of-id-requires c = let keeps = rw c.in-Id.is at c.requires.keeps in keeps (IsUtf8-from_is_utf8 _ (sym c.if-not-is_utf8.ensures))
