use Rattle.tagged_loop.proofs.TagsApart.{tags_apart}
use Rattle.tagged_loop.proofs.ring_tags_are_apart.Goals as goal

pub returns : goal.returns
returns c = λ circuit ring shape goes_back tags has typed moves s run.
    tags_apart circuit ring shape goes_back tags has (record { operators = c.value_fits.ensures; functions = c.fun_value_fits.ensures }) typed moves s run
