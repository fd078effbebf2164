use Rattle.std.proofs.Common.{◌≡◌, [], ◌∷◌, ap, subst}
use Rattle.loop_find.specs.declared.walk.Way.TheVariants.{Tree}
use Rattle.loop_find.specs.Walks.{AreAll, WalkedTo}
use Rattle.loop_find.proofs.Oks.{on_ok}
use Rattle.loop_find.proofs.MarkWalks.{put_first, tree_is}
use Rattle.loop_find.proofs.tree.find_tree.Goals as goal

pub returns-clause-all : goal.returns-clause-all
returns-clause-all c =
    let g = c.args.g.now in
    let none : c.clear.new.self.ids ≡ [] = ap (λ v. v.ids) c.clear.ensures in
    let one : c.insert.new.self.ids ≡ c.args.mark ∷ [] = put_first c.clear.new.self.ids c.insert.new.self.ids c.args.mark none c.in_ok-insert.ensures.put in
    on_ok c.walk.result (λ (all : AreAll g (WalkedTo g Tree c.insert.new.self.ids) c.walk.new.seen.ids).
    tree_is g c.args.mark c.requires.live c.walk.new.seen.ids (subst (λ ids. AreAll g (WalkedTo g Tree ids) c.walk.new.seen.ids) one all)) c.walk.ensures.all
