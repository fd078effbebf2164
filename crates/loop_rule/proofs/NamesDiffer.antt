-- The names of the nodes of each loop differ.
use Rattle.std.proofs.Common.{◌≡◌, ℕ, codes, length, refl, sym, subst, List, [], ◌∷◌, map, arith}
use Rattle.components.specs.Name.{Name}
use Rattle.circuits.specs.Replacing.{NoneTwice}
use Rattle.tagged_loop.specs.InOrderLoop.{in_order_nodes}
use Rattle.tagged_loop.specs.TaggedLoop.{tagged_nodes}
use Rattle.drawn_rules.specs.EndNames.{entry_name, exit_name}
use Rattle.drawn_rules.proofs.NamesApart.{entry_apart, exit_apart, ends_apart, with_last, apart_more, once_from, with_prefix, words_apart, entry_new, exit_new}
use Rattle.loop_rule.specs.TagLoop.{old_name, new_name}

-- six names
pub record Six (names : List Name) : Type 0 where
  pub a : Name
  pub b : Name
  pub c : Name
  pub d : Name
  pub e : Name
  pub f : Name
  pub is : names ≡ a ∷ b ∷ c ∷ d ∷ e ∷ f ∷ []

pub six_of : (names : List Name) → length names ≡ 6 → Six names
six_of [] h = absurd (omega (arith, h))
six_of (a ∷ []) h = absurd (omega (arith, h))
six_of (a ∷ b ∷ []) h = absurd (omega (arith, h))
six_of (a ∷ b ∷ c ∷ []) h = absurd (omega (arith, h))
six_of (a ∷ b ∷ c ∷ d ∷ []) h = absurd (omega (arith, h))
six_of (a ∷ b ∷ c ∷ d ∷ e ∷ []) h = absurd (omega (arith, h))
six_of (a ∷ b ∷ c ∷ d ∷ e ∷ f ∷ []) h = record { a = a; b = b; c = c; d = d; e = e; f = f; is = refl }
six_of (a ∷ b ∷ c ∷ d ∷ e ∷ f ∷ g ∷ more) h = absurd (omega (arith, h))

old_differ_at : (a b c d e f : Name) → NoneTwice (a ∷ b ∷ c ∷ d ∷ e ∷ f ∷ []) → NoneTwice (map (old_name (a ∷ b ∷ c ∷ d ∷ e ∷ f ∷ [])) in_order_nodes)
old_differ_at a b c d e f once =
    let names : List Name = a ∷ b ∷ c ∷ d ∷ e ∷ f ∷ [] in (
      apart_more (entry_name names) (exit_name names) names (entry_apart names) (ends_apart names),
      with_last names (exit_name names) once (exit_apart names),
    )

pub old_differ : (names : List Name) → length names ≡ 6 → NoneTwice names → NoneTwice (map (old_name names) in_order_nodes)
old_differ names long once =
    let six = six_of names long in
    subst (λ z. NoneTwice (map (old_name z) in_order_nodes)) (sym six.is)
    (old_differ_at six.a six.b six.c six.d six.e six.f (subst NoneTwice six.is once))

-- Names of new nodes

abbrev words : List Name
words = codes "tagger" ∷ codes "merge" ∷ codes "tag" ∷ codes "pure" ∷ codes "pair" ∷ codes "retag" ∷ codes "branch" ∷ []

words_once : NoneTwice words
words_once = once_from words refl

pub new_differ : (prefix : ℕ) (names : List Name) → NoneTwice (map (new_name prefix names) tagged_nodes)
new_differ prefix names = (
  apart_more (entry_name names) (exit_name names) (map (with_prefix prefix) words) (entry_new prefix names words) (ends_apart names),
  with_last (map (with_prefix prefix) words) (exit_name names) (words_apart prefix words words_once) (exit_new prefix names words),
)
