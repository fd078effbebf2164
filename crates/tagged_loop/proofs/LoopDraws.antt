-- The drawn graphs of the two loops have the plans' circuits.
use Rattle.std.proofs.Common.{◌≡◌, ℕ, zero, suc, Bool, true, false, refl}
use Rattle.circuits.specs.Replacing.{In, head, tail}
use Rattle.circuit_plans.proofs.PlanTyped.{ForSome}
use Rattle.circuit_plans.proofs.Drawn.{Draws}
use Rattle.tagged_loop.specs.InOrderLoop.{InOrderNode, LoopParts, entry, init, mux, pure, pair, cond, branch, exit, in_order_nodes, in_order_wires, in_order}
use Rattle.tagged_loop.specs.TaggedLoop.{TaggedNode, new_entry, tagger, merge, tag, new_pure, new_pair, retag, new_branch, new_exit, tagged_nodes, tagged_wires, tagged_kind, tagged_drawing}
use Rattle.tagged_loop.proofs.LoopPlans.{parts, in_order_plan, in_order_source, tagged_plan, tagged_source}
use Rattle.tagged_loop.proofs.LoopSteps.{fresh_source, back_source}

pub old_in : (n : InOrderNode) → In n in_order_nodes
old_in entry = head refl
old_in init = tail (head refl)
old_in mux = tail (tail (head refl))
old_in pure = tail (tail (tail (head refl)))
old_in pair = tail (tail (tail (tail (head refl))))
old_in cond = tail (tail (tail (tail (tail (head refl)))))
old_in branch = tail (tail (tail (tail (tail (tail (head refl))))))
old_in exit = tail (tail (tail (tail (tail (tail (tail (head refl)))))))

pub new_in : (n : TaggedNode) → In n tagged_nodes
new_in new_entry = head refl
new_in tagger = tail (head refl)
new_in merge = tail (tail (head refl))
new_in tag = tail (tail (tail (head refl)))
new_in new_pure = tail (tail (tail (tail (head refl))))
new_in new_pair = tail (tail (tail (tail (tail (head refl)))))
new_in retag = tail (tail (tail (tail (tail (tail (head refl))))))
new_in new_branch = tail (tail (tail (tail (tail (tail (tail (head refl)))))))
new_in new_exit = tail (tail (tail (tail (tail (tail (tail (tail (head refl))))))))

-- the wire is listed
abbrev OldListed : Bool → InOrderNode → ℕ → Type 0
OldListed d n i = ForSome (in_order_source d n i) (λ q. In (record { source = q; target = record { at = n; port = i } }) (in_order_wires d))

old_listed : (d : Bool) (n : InOrderNode) (i : ℕ) → OldListed d n i
old_listed d entry i = tt
old_listed d init zero = tt
old_listed d init (suc zero) = tail (tail (tail (tail (tail (tail (tail (tail (head refl))))))))
old_listed d init (suc (suc i)) = tt
old_listed d mux zero = tt
old_listed d mux (suc zero) = head refl
old_listed true mux (suc (suc zero)) = tail (head refl)
old_listed true mux (suc (suc (suc zero))) = tail (tail (head refl))
old_listed false mux (suc (suc zero)) = tail (tail (head refl))
old_listed false mux (suc (suc (suc zero))) = tail (head refl)
old_listed d mux (suc (suc (suc (suc i)))) = tt
old_listed d pure zero = tt
old_listed d pure (suc zero) = tail (tail (tail (head refl)))
old_listed d pure (suc (suc i)) = tt
old_listed d pair zero = tt
old_listed d pair (suc zero) = tail (tail (tail (tail (head refl))))
old_listed d pair (suc (suc i)) = tt
old_listed d cond zero = tt
old_listed d cond (suc zero) = tail (tail (tail (tail (tail (tail (head refl))))))
old_listed d cond (suc (suc i)) = tt
old_listed d branch zero = tt
old_listed d branch (suc zero) = tail (tail (tail (tail (tail (head refl)))))
old_listed d branch (suc (suc zero)) = tail (tail (tail (tail (tail (tail (tail (head refl)))))))
old_listed d branch (suc (suc (suc i))) = tt
old_listed d exit zero = tt
old_listed d exit (suc zero) = tail (tail (tail (tail (tail (tail (tail (tail (tail (head refl)))))))))
old_listed d exit (suc (suc i)) = tt

pub old_draws : (loop : LoopParts) → Draws (in_order loop) (in_order_plan loop.shape loop.fun loop.goes_back loop.mark)
old_draws loop =
    record {
      kinds = λ n. refl;
      all = old_in;
      sound = (refl, (fresh_source loop.goes_back, (back_source loop.goes_back, (refl, (refl, (refl, (refl, (refl, (refl, (refl, tt))))))))));
      complete = old_listed loop.goes_back;
    }

abbrev NewListed : Bool → TaggedNode → ℕ → Type 0
NewListed d n i = ForSome (tagged_source d n i) (λ q. In (record { source = q; target = record { at = n; port = i } }) (tagged_wires d))

new_listed : (d : Bool) (n : TaggedNode) (i : ℕ) → NewListed d n i
new_listed d new_entry i = tt
new_listed d tagger zero = tt
new_listed d tagger (suc zero) = head refl
new_listed d tagger (suc (suc zero)) = tail (tail (tail (tail (tail (tail (tail (tail (tail (tail (head refl))))))))))
new_listed d tagger (suc (suc (suc i))) = tt
new_listed d merge zero = tt
new_listed d merge (suc zero) = tail (head refl)
new_listed d merge (suc (suc zero)) = tail (tail (tail (tail (tail (tail (tail (tail (tail (head refl)))))))))
new_listed d merge (suc (suc (suc i))) = tt
new_listed d tag zero = tt
new_listed d tag (suc zero) = tail (tail (head refl))
new_listed d tag (suc (suc i)) = tt
new_listed d new_pure zero = tt
new_listed d new_pure (suc zero) = tail (tail (tail (tail (head refl))))
new_listed d new_pure (suc (suc i)) = tt
new_listed d new_pair zero = tt
new_listed d new_pair (suc zero) = tail (tail (tail (tail (tail (head refl)))))
new_listed d new_pair (suc (suc i)) = tt
new_listed d retag zero = tt
new_listed d retag (suc zero) = tail (tail (tail (head refl)))
new_listed d retag (suc (suc zero)) = tail (tail (tail (tail (tail (tail (head refl))))))
new_listed d retag (suc (suc (suc i))) = tt
new_listed d new_branch zero = tt
new_listed d new_branch (suc zero) = tail (tail (tail (tail (tail (tail (tail (tail (head refl))))))))
new_listed d new_branch (suc (suc zero)) = tail (tail (tail (tail (tail (tail (tail (head refl)))))))
new_listed d new_branch (suc (suc (suc i))) = tt
new_listed d new_exit zero = tt
new_listed d new_exit (suc zero) = tail (tail (tail (tail (tail (tail (tail (tail (tail (tail (tail (head refl)))))))))))
new_listed d new_exit (suc (suc i)) = tt

new_kinds : (loop : LoopParts) (tags : ℕ) (n : TaggedNode) → tagged_kind loop tags n ≡ tagged_kind (parts loop.shape loop.fun loop.goes_back 0) tags n
new_kinds loop tags new_entry = refl
new_kinds loop tags tagger = refl
new_kinds loop tags merge = refl
new_kinds loop tags tag = refl
new_kinds loop tags new_pure = refl
new_kinds loop tags new_pair = refl
new_kinds loop tags retag = refl
new_kinds loop tags new_branch = refl
new_kinds loop tags new_exit = refl

pub new_draws : (loop : LoopParts) (tags : ℕ) → Draws (tagged_drawing loop tags) (tagged_plan loop.shape loop.fun loop.goes_back tags)
new_draws loop tags =
    record {
      kinds = new_kinds loop tags;
      all = new_in;
      sound = (refl, (refl, (refl, (refl, (refl, (refl, (refl, (refl, (refl, (refl, (refl, (refl, tt))))))))))));
      complete = new_listed loop.goes_back;
    }
