use Rattle.std.proofs.Common.{rules, arith, ap, ◌∙◌, [], List, ◌≡◌, ℕ, true, false, refl, sym, subst, length}
use Rattle.std.specs.Prelude.{Err}
use Rattle.ls_board.specs.declared.action.Part.{Part}
use Rattle.ls_board.specs.declared.action.BoardFault.TheVariants.{Failed}
use Rattle.ls_board.specs.Acts.{Acts}
use Rattle.ls_memboard.specs.Noted.{IsNoted, IsHearable}
use Rattle.ls_memboard.specs.Seen.{sight_of, failures_of}
use Rattle.ls_memboard.specs.declared.failure.Failure.{Failure}
use Rattle.ls_memboard.specs.Failures.{outcome_at}
use Rattle.ls_memboard.specs.Failing.{FailsAsListed}
use Rattle.ls_memboard.proofs.ReplayLemmas.{length-past_from}
use Rattle.ls_memboard.proofs.CallLemmas.{listed_call, done_call, lacking_call, most_hearable, ok_acts, failed_acts, lacking_acts}
use Rattle.ls_memboard.proofs.acting.MemBoardBoard.act.Goals as goal

pub returns-in-Some-clause-acts : goal.returns-in-Some-clause-acts
returns-in-Some-clause-acts c =
    let s = c.args.self.now in
    let none : c.clear.new.self.items ≡ [] = search rules in
    subst (λ (p : Part). Acts (sight_of s) c.args.a.now (Err (Failed p)) c.clear.new.self.items (sight_of c.note.new.self)) (sym c.part.ensures.part)
    (failed_acts (sight_of s) (sight_of c.note.new.self) c.args.a.now c.in-Some.done c.could_hear-count.result c.clear.new.self.items none refl s.in_step.in_order.files c.requires (subst (λ (n : ℕ). IsHearable (sight_of s) c.args.a.now n) (sym c.could_hear-count.ensures.most) (most_hearable (sight_of s) c.args.a.now)) c.note.ensures.noted)

pub returns-in-Ok-clause-acts : goal.returns-in-Ok-clause-acts
returns-in-Ok-clause-acts c =
    let same : c.len-in-Ok.result ≡ length c.answered.new.out.items = search rules in
    let noted = subst (λ (n : ℕ). IsNoted (sight_of c.args.self.now) c.args.a.now true false n (sight_of c.note-in-Ok.new.self)) same c.note-in-Ok.ensures.noted in
    ok_acts (sight_of c.args.self.now) (sight_of c.note-in-Ok.new.self) c.args.a.now c.in-Ok.answer c.answered.new.out.items c.in-Ok.ensures.answer c.in-Ok.ensures.lists noted

pub returns-in-Err-clause-acts : goal.returns-in-Err-clause-acts
returns-in-Err-clause-acts c =
    lacking_acts (sight_of c.args.self.now) (sight_of c.note-in-Err.new.self) c.args.a.now c.answered.new.out.items c.in-Err.ensures.clear c.in-Err.ensures.lacking c.note-in-Err.ensures.noted

pub returns-in-Some-clause-failing : goal.returns-in-Some-clause-failing
returns-in-Some-clause-failing c =
    let s = c.args.self.now in
    let moment : c.len.result ≡ length (sight_of s).past = omega (arith, length-past_from s.pool.items s.start s.log.items [], c.len.ensures, s.log.ok) in
    subst (λ (p : Part). FailsAsListed (failures_of s) (sight_of s) c.args.a.now (Err (Failed p)) (sight_of c.note.new.self)) (sym c.part.ensures.part)
    (listed_call (failures_of s) (sight_of s) (sight_of c.note.new.self) c.args.a.now c.in-Some.done (ap (outcome_at (failures_of s)) (sym moment) ∙ sym (c.in-Some.ensures.first ∙ ap (λ (f : List Failure). outcome_at f c.len.result) c.as_slice.ensures.same))
    (subst (λ (n : ℕ). IsNoted (sight_of s) c.args.a.now c.in-Some.done true n (sight_of c.note.new.self)) c.could_hear-count.ensures.most c.note.ensures.noted))

pub returns-in-Ok-clause-failing : goal.returns-in-Ok-clause-failing
returns-in-Ok-clause-failing c =
    let s = c.args.self.now in
    let moment : c.len.result ≡ length (sight_of s).past = omega (arith, length-past_from s.pool.items s.start s.log.items [], c.len.ensures, s.log.ok) in
    done_call (failures_of s) (sight_of s) (sight_of c.note-in-Ok.new.self) c.args.a.now c.in-Ok.answer c.len-in-Ok.result (ap (outcome_at (failures_of s)) (sym moment) ∙ sym (c.in_default.ensures.first ∙ ap (λ (f : List Failure). outcome_at f c.len.result) c.as_slice.ensures.same)) c.note-in-Ok.ensures.noted

pub returns-in-Err-clause-failing : goal.returns-in-Err-clause-failing
returns-in-Err-clause-failing c =
    let s = c.args.self.now in
    let moment : c.len.result ≡ length (sight_of s).past = omega (arith, length-past_from s.pool.items s.start s.log.items [], c.len.ensures, s.log.ok) in
    lacking_call (failures_of s) (sight_of s) (sight_of c.note-in-Err.new.self) c.args.a.now 0 (ap (outcome_at (failures_of s)) (sym moment) ∙ sym (c.in_default.ensures.first ∙ ap (λ (f : List Failure). outcome_at f c.len.result) c.as_slice.ensures.same)) c.note-in-Err.ensures.noted
