-- What the graph drains the stripped graph drains, by the law of circuits.
use Rattle.circuits.specs.Laws.{GraphDropDrains}
use Rattle.rewrite.specs.Behaviour.{KeepsDrains, StrippedDrains}
use Rattle.rewrite.proofs.Refining.{by_stripping}

pub stripped_drains : GraphDropDrains → StrippedDrains
stripped_drains drop =
    by_stripping KeepsDrains
    (λ g typed ins outs drains. drains)
    (λ h between g after before ins outs drains. after ins outs (before ins outs drains))
    (λ h g b typed without ins outs drains. drop h g b ins outs typed without drains)
