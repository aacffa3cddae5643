use Rattle.std.proofs.Common.{◌≡◌, Bool, ℕ, List, [], Option, None, Some, refl, sym, ◌∙◌, ap, subst}
use Rattle.std.proofs.lemmas.List.Elements.{All-filter}
use Rattle.ls_board.specs.declared.action.Answer.TheVariants.{Bytes, Absent}
use Rattle.ls_board.specs.Effect.{file_at}
use Rattle.ls_memboard.specs.declared.call.Entry.{Entry}
use Rattle.ls_memboard.specs.Calls.{IsIn, changed_a_file}
use Rattle.ls_memboard.specs.Contents.{IsRead, shown, contents_after}
use Rattle.ls_memboard.specs.Replay.{AllIn}
use Rattle.ls_memboard.proofs.ReplayLemmas.{file_shown}
use Rattle.ls_memboard.proofs.memory.MemBoard.read.Goals as goal

found_read : (file : Option (List ℕ)) (out : List ℕ) → file ≡ Some out → IsRead file Bytes out
found_read file out is = rw is (refl, refl)

absent_read : (file : Option (List ℕ)) (out : List ℕ) → file ≡ None → out ≡ [] → IsRead file Absent out
absent_read file out is empty = rw is (refl, empty)

pub read_file-requires : goal.read_file-requires
read_file-requires c =
    let s = c.args.self.now in
    let kept = All-filter changed_a_file (λ e. IsIn s.pool.items e.kept) s.log.items s.in_step.within in
    subst (λ (pool : List ℕ). AllIn pool c.deref.result.now) (sym c.deref-2.ensures.value)
    (subst (λ (log : List Entry). AllIn s.pool.items log) (sym (c.deref.ensures.value ∙ s.in_step.changes_are)) kept)

pub returns-then-branch : goal.returns-then-branch
returns-then-branch c =
    let s = c.args.self.now in
    let read = c.in_ok-read_file.ensures ∙ (λ i. contents_after (c.deref-2.ensures.value i) (c.deref.ensures.value i) c.args.name.now (file_at s.start c.args.name.now)) in
    record {
      answer = found_read _ _ (file_shown s.pool.items s.start s.log.items s.changes.items c.args.name.now c.in_ok-read_file.field-0 c.read_file.new.out.items s.in_step.changes_are read
          ∙ ap (λ (b : Bool). shown b c.read_file.new.out.items) c.if-branch.true);
    }

pub returns-else-branch : goal.returns-else-branch
returns-else-branch c =
    let s = c.args.self.now in
    let read = c.in_ok-read_file.ensures ∙ (λ i. contents_after (c.deref-2.ensures.value i) (c.deref.ensures.value i) c.args.name.now (file_at s.start c.args.name.now)) in
    record {
      answer = absent_read _ _ (file_shown s.pool.items s.start s.log.items s.changes.items c.args.name.now c.in_ok-read_file.field-0 c.read_file.new.out.items s.in_step.changes_are read
          ∙ ap (λ (b : Bool). shown b c.read_file.new.out.items) c.if-branch.false) c.clear.ensures.items;
    }
