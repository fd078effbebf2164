-- What a run does, by what its parts did.
use Rattle.std.proofs.Common.{◌≡◌, ◌≢◌, inl, inr, ℕ, ◌+◌, ◌≤◌, List, [], ◌++◌, length, false, Option, Some, None, IfSome, Ok, Err, refl, sym, ap, subst, ◌∙◌, arith, length-append}
use Rattle.std.specs.Prelude.{IsTrue}
use Rattle.std.proofs.lemmas.Bool.{true≢false}
use Rattle.std.proofs.lemmas.List.{append-nil}
use Rattle.std.proofs.lemmas.Option.{same_Some}
use Rattle.gx_base.specs.Stream.{Told, before, NeverFell, CountRose, GaveWhole, GaveSome}
use Rattle.components.specs.NamedGraph.{NamedGraph}
use Rattle.commands.specs.declared.status.Status.{Status}
use Rattle.commands.specs.declared.status.Status.TheVariants.{Done, Usage, NotYet, TooLong, ReadFault, WriteFault, NoMemory}
use Rattle.commands.specs.declared.words.Command.{Command}
use Rattle.commands.specs.declared.words.Command.TheVariants.{Print, Strip, Gather, Unfold, Rewrite, Trace, Loops, Sim, Check, Gen}
use Rattle.commands.specs.Words.{runs, Reads}
use Rattle.commands.specs.Judged.{Verdict, Judged}
use Rattle.commands.specs.Laws.{IsOneVerdict, AnswersReadBack, AnswersRefine, AnswersDrain, AnswersHaveForm}
use Rattle.commands.specs.Ruling.{max_input, Tells, answer, front, refusal, Judges, TellsVerdict, TellsAnswer, LeadsTo, Completes, IsPrint, Printed, Writes, all_written, write_failed, Outcome, answered, refused, no_memory, read_failed, too_long, Ran}

-- a source that was not read gave nothing
gave_nothing : (bytes : Option (List ℕ)) → bytes ≡ before [] bytes
gave_nothing None = refl
gave_nothing (Some bytes) = refl

pub unread_source : (told : Told) → GaveSome (λ count. count ≤ max_input) told told
unread_source told = ([], omega arith, gave_nothing told.bytes)

-- a source that was read whole gave no more than its bytes
pub gave_within : (input : List ℕ) (old new : Told) → GaveWhole input old new → length input ≤ max_input → GaveSome (λ count. count ≤ max_input) old new
gave_within input old new gave within = (input, within, gave.given)

-- the bytes that a source had and those that it gave, where it has none left
whole_given : (bytes input : List ℕ) (new : Option (List ℕ)) → Some bytes ≡ before input new → IfSome new (λ rest. rest ≡ []) → input ≡ bytes
whole_given bytes input None e ended = absurd (cc)
whole_given bytes input (Some rest) e ended = sym (same_Some bytes (input ++ rest) e ∙ ap (λ r. input ++ r) ended ∙ append-nil input)

given_fit : (bytes given : List ℕ) (new : Option (List ℕ)) → Some bytes ≡ before given new → length given ≤ length bytes
given_fit bytes given None e = absurd (cc)
given_fit bytes given (Some rest) e = let l = ap length (same_Some bytes (given ++ rest) e) ∙ length-append given rest in omega arith

module _ {O : Type 0} (told : O → Told) (command : Command) (src_old src_new : Told) (out_old out_new : O) where
  abbrev Came : Status → Type 0
  Came = Outcome told command src_old src_new out_old out_new

  -- what writing came to is a status that tells the answer
  writes_tell : (text : List ℕ) (status : Status) → Writes text (told out_old) (told out_new) status → Tells (told out_old) (told out_new) (Ok text) status
  writes_tell text status (all_written took) = answer text took
  writes_tell text status (write_failed took rose) = front text took

  writes_lead : (text : List ℕ) (status : Status) → Writes text (told out_old) (told out_new) status → LeadsTo (Ok text) status
  writes_lead text status (all_written took) = inl refl
  writes_lead text status (write_failed took rose) = inr (inl refl)

  no_memory_leads : (verdict : Verdict) → LeadsTo verdict NoMemory
  no_memory_leads (Ok text) = inr (inr refl)
  no_memory_leads (Err why) = inr refl

  judges : (status : Status) → Came status → TellsVerdict status → Judges command status src_old src_new (told out_old) (told out_new)
  judges status (answered input text s gave within is writes) tells =
      record { input = input; gave = gave; within = within; verdict = Ok text; judged = is; tells = writes_tell text status writes }
  judges status (refused input why gave within is same) tells = record { input = input; gave = gave; within = within; verdict = Err why; judged = is; tells = refusal why }
  judges status (no_memory some same) tells = absurd tells
  judges status (read_failed some rose same) tells = absurd tells
  judges status (too_long some same) tells = absurd tells

  no_usage : (status : Status) → Came status → status ≢ Usage
  no_usage status (answered input text s gave within is (all_written took)) e = absurd (cc)
  no_usage status (answered input text s gave within is (write_failed took rose)) e = absurd (cc)
  no_usage status (refused input why gave within is same) e = absurd (cc)
  no_usage status (no_memory some same) e = absurd (cc)
  no_usage status (read_failed some rose same) e = absurd (cc)
  no_usage status (too_long some same) e = absurd (cc)

  no_later : (status : Status) → Came status → status ≢ NotYet
  no_later status (answered input text s gave within is (all_written took)) e = absurd (cc)
  no_later status (answered input text s gave within is (write_failed took rose)) e = absurd (cc)
  no_later status (refused input why gave within is same) e = absurd (cc)
  no_later status (no_memory some same) e = absurd (cc)
  no_later status (read_failed some rose same) e = absurd (cc)
  no_later status (too_long some same) e = absurd (cc)

  fault_of_read : (status : Status) → Came status → status ≡ ReadFault → CountRose src_old src_new
  fault_of_read status (answered input text s gave within is (all_written took)) e = absurd (cc)
  fault_of_read status (answered input text s gave within is (write_failed took rose)) e = absurd (cc)
  fault_of_read status (refused input why gave within is same) e = absurd (cc)
  fault_of_read status (no_memory some same) e = absurd (cc)
  fault_of_read status (read_failed some rose same) e = rose
  fault_of_read status (too_long some same) e = absurd (cc)

  fault_of_write : (status : Status) → Came status → status ≡ WriteFault → CountRose (told out_old) (told out_new)
  fault_of_write status (answered input text s gave within is (all_written took)) e = absurd (cc)
  fault_of_write status (answered input text s gave within is (write_failed took rose)) e = rose
  fault_of_write status (refused input why gave within is same) e = absurd (cc)
  fault_of_write status (no_memory some same) e = absurd (cc)
  fault_of_write status (read_failed some rose same) e = absurd (cc)
  fault_of_write status (too_long some same) e = absurd (cc)

  one_too_many : (status : Status) → Came status → status ≡ TooLong → GaveSome (λ count. count ≡ max_input + 1) src_old src_new
  one_too_many status (answered input text s gave within is (all_written took)) e = absurd (cc)
  one_too_many status (answered input text s gave within is (write_failed took rose)) e = absurd (cc)
  one_too_many status (refused input why gave within is same) e = absurd (cc)
  one_too_many status (no_memory some same) e = absurd (cc)
  one_too_many status (read_failed some rose same) e = absurd (cc)
  one_too_many status (too_long some same) e = some

  within_limit : (status : Status) → Came status → status ≢ TooLong → GaveSome (λ count. count ≤ max_input) src_old src_new
  within_limit status (answered input text s gave within is writes) other = (input, within, gave.given)
  within_limit status (refused input why gave within is same) other = (input, within, gave.given)
  within_limit status (no_memory some same) other = some
  within_limit status (read_failed some rose same) other = some
  within_limit status (too_long some same) other = absurd (other refl)

  nothing_else : (status : Status) → Came status → status ≢ Done → status ≢ WriteFault → out_new ≡ out_old
  nothing_else status (answered input text s gave within is (all_written took)) other cut = absurd (other refl)
  nothing_else status (answered input text s gave within is (write_failed took rose)) other cut = absurd (cut refl)
  nothing_else status (refused input why gave within is same) other cut = same
  nothing_else status (no_memory some same) other cut = same
  nothing_else status (read_failed some rose same) other cut = same
  nothing_else status (too_long some same) other cut = same

  prints : (P : NamedGraph → NamedGraph → Type 0) → ((input text : List ℕ) → Judged command input (Ok text) → IsPrint P input text) → (status : Status) → Came status → TellsAnswer status →
      Printed P command status src_old src_new (told out_old) (told out_new)
  prints P print status (answered input text s gave within is writes) tells =
      record {
        judges = record { input = input; gave = gave; within = within; verdict = Ok text; judged = is; tells = writes_tell text status writes };
        text = text;
        is = refl;
        print = print input text is;
      }
  prints P print status (refused input why gave within is same) tells = absurd tells
  prints P print status (no_memory some same) tells = absurd tells
  prints P print status (read_failed some rose same) tells = absurd tells
  prints P print status (too_long some same) tells = absurd tells

  module _ (one : IsOneVerdict) (input : List ℕ) (has : src_old.bytes ≡ Some input) where
    was_read : (read : List ℕ) → GaveWhole read src_old src_new → read ≡ input
    was_read read gave = whole_given input read src_new.bytes (sym has ∙ gave.given) gave.ended

    completes : (status : Status) → Came status → ¬ (CountRose src_old src_new) → Completes command input status
    completes status (answered read text s gave within is writes) no_fault =
        let same = was_read read gave in
        record {
          judged = λ verdict few judged.
              subst (λ v. LeadsTo v status) (sym (one command input verdict (Ok text) judged (subst (λ bytes. Judged command bytes (Ok text)) same is))) (writes_lead text status writes);
          long = λ many. let l = ap length same in absurd (omega (arith, l, many, within));
        }
    completes status (refused read why gave within is same_out) no_fault =
        let same = was_read read gave in
        record {
          judged = λ verdict few judged.
              subst (λ v. LeadsTo v status) (sym (one command input verdict (Err why) judged (subst (λ bytes. Judged command bytes (Err why)) same is))) (inl refl);
          long = λ many. let l = ap length same in absurd (omega (arith, l, many, within));
        }
    completes status (no_memory some same) no_fault = record { judged = λ verdict few judged. no_memory_leads verdict; long = λ many. inr refl }
    completes status (read_failed some rose same) no_fault = absurd (no_fault rose)
    completes status (too_long some same) no_fault =
        let fit = given_fit input some.0 src_new.bytes (sym has ∙ some.2) in
        let is = some.1 in
        record { judged = λ verdict few judged. absurd (omega (arith, few, fit, is)); long = λ many. inl refl }

  completes_told : IsOneVerdict → (bytes : Option (List ℕ)) → src_old.bytes ≡ bytes → (status : Status) → Came status → ¬ (CountRose src_old src_new) →
      IfSome bytes (λ input. Completes command input status)
  completes_told one None has status came no_fault = tt
  completes_told one (Some input) has status came no_fault = completes one input has status came no_fault

-- a command that runs is not one that does not
not_later : (command : Command) → IsTrue (runs command) → ¬ (runs command ≡ false)
not_later command is not_so = true≢false (sym is ∙ not_so)

-- what reads the input runs
runs_of : (command : Command) → Reads (Some command) → IsTrue (runs command)
runs_of Print reads = reads
runs_of Strip reads = reads
runs_of Gather reads = reads
runs_of Unfold reads = reads
runs_of Rewrite reads = reads
runs_of Trace reads = reads
runs_of Loops reads = reads
runs_of (Sim limit) reads = reads
runs_of Check reads = reads
runs_of (Gen count) reads = absurd reads

-- what runs today reads the input
reads_of : (command : Command) → IsTrue (runs command) → Reads (Some command)
reads_of Print is = is
reads_of Strip is = is
reads_of Gather is = is
reads_of Unfold is = is
reads_of Rewrite is = is
reads_of Trace is = is
reads_of Loops is = is
reads_of (Sim limit) is = is
reads_of Check is = is
reads_of (Gen count) is = absurd (true≢false (sym is))

module _ {S O : Type 0} (source : S → Told) (sink : O → Told) (src_old src_new : S) (out_old out_new : O) where
  -- words that name no command, and commands that do not run yet
  pub ran_usage : Ran source sink None Usage src_old src_old out_old out_old
  ran_usage =
      record {
        usage = (λ _. refl, λ _. refl);
        later = (λ e. absurd (cc), λ later. absurd later);
        unread = λ _. refl;
        judged = λ tells. absurd tells;
        complete = λ reads. absurd reads;
        read_fault = λ e. absurd (cc);
        too_long = λ e. absurd (cc);
        within = λ _. unread_source (source src_old);
        write_fault = λ e. absurd (cc);
        nothing_written = λ _ _. refl;
        counts = (omega arith, omega arith);
        reads_back = λ tells. absurd tells;
        refines = λ tells. absurd tells;
        drains = λ tells. absurd tells;
        form = λ tells. absurd tells;
      }

  pub ran_later : (command : Command) → runs command ≡ false → Ran source sink (Some command) NotYet src_old src_old out_old out_old
  ran_later command later =
      record {
        usage = (λ e. absurd (cc), λ e. absurd (cc));
        later = (λ _. later, λ _. refl);
        unread = λ _. refl;
        judged = λ tells. absurd tells;
        complete = λ reads. absurd (not_later command (runs_of command reads) later);
        read_fault = λ e. absurd (cc);
        too_long = λ e. absurd (cc);
        within = λ _. unread_source (source src_old);
        write_fault = λ e. absurd (cc);
        nothing_written = λ _ _. refl;
        counts = (omega arith, omega arith);
        reads_back = λ tells. absurd tells;
        refines = λ tells. absurd tells;
        drains = λ tells. absurd tells;
        form = λ tells. absurd tells;
      }

  pub ran_command : IsOneVerdict → AnswersReadBack → AnswersRefine → AnswersDrain → AnswersHaveForm → (command : Command) → IsTrue (runs command) → (status : Status) →
      Outcome sink command (source src_old) (source src_new) out_old out_new status → NeverFell (source src_old) (source src_new) × NeverFell (sink out_old) (sink out_new) →
      Ran source sink (Some command) status src_old src_new out_old out_new
  ran_command one back refines drains form command is status came counts =
      let old = source src_old in
      let new = source src_new in
      record {
        usage = (λ e. absurd (no_usage sink command old new out_old out_new status came e), λ e. absurd (cc));
        later = (λ e. absurd (no_later sink command old new out_old out_new status came e), λ later. absurd (not_later command is later));
        unread = λ unread. absurd (unread (reads_of command is));
        judged = judges sink command old new out_old out_new status came;
        complete = λ _ no_fault. completes_told sink command old new out_old out_new one old.bytes refl status came no_fault;
        read_fault = fault_of_read sink command old new out_old out_new status came;
        too_long = one_too_many sink command old new out_old out_new status came;
        within = within_limit sink command old new out_old out_new status came;
        write_fault = fault_of_write sink command old new out_old out_new status came;
        nothing_written = nothing_else sink command old new out_old out_new status came;
        counts = counts;
        reads_back = λ tells print. prints sink command old new out_old out_new _ (λ input text. back command input text print) status came tells;
        refines = λ tells print. prints sink command old new out_old out_new _ (λ input text. refines command input text print) status came tells;
        drains = λ tells print. prints sink command old new out_old out_new _ (λ input text. drains command input text print) status came tells;
        form = λ tells print. prints sink command old new out_old out_new _ (λ input text. form command input text print) status came tells;
      }
