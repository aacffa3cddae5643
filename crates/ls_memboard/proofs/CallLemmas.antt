-- A call that was noted is one call of `act`.
use Rattle.std.proofs.Common.{◌≡◌, inl, inr, ◌+◌, ℕ, Bool, true, false, cond, List, [], ◌++◌, length, replicate, Option, None, Some, refl, sym, ◌∙◌, ap, subst, arith, eq-eqb, le-leb, length-append, length-take}
use Rattle.std.specs.Prelude.{Result, Ok, Err, ◌==◌, ◌≤◌, IsTrue, IsSomeAnd, nat_lt, MatchOption}
use Rattle.std.specs.FinMap.Entries.{is_sorted, put}
use Rattle.std.proofs.lemmas.List.{append-nil, length-replicate}
use Rattle.std.proofs.Math.Nat.{add-zero}
use Rattle.ls_gcm.specs.Gcm.{gcm_open}
use Rattle.ls_tape.specs.Tape.{drawn}
use Rattle.ls_weaver.specs.declared.slot.SlotRead.{SlotRead}
use Rattle.ls_weaver.specs.declared.slot.SlotRead.TheVariants as read
use Rattle.ls_weaver.specs.Slots.{slot_answer}
use Rattle.ls_board.specs.declared.action.Action.{Action}
use Rattle.ls_board.specs.declared.action.Action.TheVariants.{List as ListNames, Read, Make, Put, Poke, Remove, Sync, WeaverWrite, WeaverRead, GkSign, GkEnroll, GkVerify, GkForget, GkList, KeyPut, KeyOpen, KeyDrop, KeyList, ResumeStore, ResumeTake, Hear, Say, Now, Draw}
use Rattle.ls_board.specs.declared.action.Answer.{Answer}
use Rattle.ls_board.specs.declared.action.Answer.TheVariants as answers
use Rattle.ls_board.specs.declared.action.Answer.TheVariants.{Done}
use Rattle.ls_board.specs.declared.action.Part.{Part}
use Rattle.ls_board.specs.declared.action.BoardFault.{BoardFault}
use Rattle.ls_board.specs.declared.action.BoardFault.TheVariants.{Failed, Memory}
use Rattle.ls_board.specs.declared.devices.Counter.{Counter}
use Rattle.ls_board.specs.declared.touch.Touch.{Touch}
use Rattle.ls_board.specs.declared.world.World.{World}
use Rattle.ls_board.specs.Order.{byte_cmp}
use Rattle.ls_board.specs.Effect.{Mark, file_at, slot_at, after, Answers, HasShape, IsSlotAnswer, IsHandleAnswer, IsVerifyAnswer, IsCellAnswer, IsMomentAnswer, read_answer, cell_answer, part_of, MayLack, Applies, make_mark, put_mark, poke_mark, remove_mark}
use Rattle.ls_board.specs.Gatekeeper.{sid_of, is_signed, counter_of, answer_by}
use Rattle.ls_board.specs.Images.{MayHold, MarkWithin, Within, changing}
use Rattle.ls_board.specs.Keys.{key_at, IsOpening}
use Rattle.ls_board.specs.Acts.{Sight, CanAct, Acts, Rose}
use Rattle.ls_board.proofs.StepLemmas.{done_within, whole_mark, where_all, no_bytes}
use Rattle.ls_board.proofs.FileLemmas.{with_file_same}
use Rattle.ls_memboard.specs.Replay.{touched_only, after_call, number_of, is_in_file, call_fits}
use Rattle.ls_memboard.specs.Failing.{most_heard, failed_world, FailsAsListed}
use Rattle.ls_memboard.specs.Failures.{outcome_at}
use Rattle.ls_memboard.specs.Listed.{ListsInOrder}
use Rattle.ls_memboard.specs.declared.failure.Failure.{Failure}
use Rattle.ls_memboard.specs.Noted.{IsNoted, IsHearable}
use Rattle.ls_memboard.proofs.PokeLemmas.{poked_from}

-- ---- answers have their shapes

read_shape : (file : Option (List ℕ)) (n : List ℕ) (answer : Answer) (out : List ℕ) (w : World) → file_at w n ≡ file → Answers w (Read n) answer out → HasShape (Read n) answer out
read_shape None n answer out w is a = inl (rw is at a)
read_shape (Some bytes) n answer out w is a = inr (rw is at a).0

slot_shape : (r : SlotRead) → IsSlotAnswer (read_answer r)
slot_shape (read.Value value) = tt
slot_shape (read.Wrong rest) = tt
slot_shape (read.Throttled rest) = tt

counter_shape : (resting right : Bool) (left sid rest : ℕ) → IsVerifyAnswer (cond resting (answers.Throttled left) (cond right (answers.Accepted sid) (answers.Wrong rest)))
counter_shape true right left sid rest = tt
counter_shape false true left sid rest = tt
counter_shape false false left sid rest = tt

verify_shape : (sid : ℕ) (right : Bool) (moment : ℕ) (counter : Option Counter) → IsVerifyAnswer (answer_by sid right moment counter)
verify_shape sid right moment None = tt
verify_shape sid right moment (Some c) = counter_shape (nat_lt moment c.until) right _ sid _

text_shape : (text : Option (List ℕ)) (alias : ℕ) (bytes : List ℕ) (answer : Answer) (out : List ℕ) → MatchOption text ((answer ≡ answers.BadTag) × (out ≡ [])) (λ text. (answer ≡ answers.Bytes) × (out ≡ text)) → HasShape (KeyOpen alias bytes) answer out
text_shape None alias bytes answer out a = inr (inl a)
text_shape (Some text) alias bytes answer out a = inr (inr a.0)

key_shape : (key : Option (List ℕ)) (alias : ℕ) (bytes : List ℕ) (answer : Answer) (out : List ℕ)
    → MatchOption key ((answer ≡ answers.NoKey) × (out ≡ [])) (λ key. MatchOption (gcm_open key bytes) ((answer ≡ answers.BadTag) × (out ≡ [])) (λ text. (answer ≡ answers.Bytes) × (out ≡ text))) → HasShape (KeyOpen alias bytes) answer out
key_shape None alias bytes answer out a = inl a
key_shape (Some key) alias bytes answer out a = text_shape (gcm_open key bytes) alias bytes answer out a

open_shape : (keys : List (ℕ × List ℕ)) (alias : ℕ) (bytes : List ℕ) (answer : Answer) (out : List ℕ) → IsOpening keys alias bytes answer out → HasShape (KeyOpen alias bytes) answer out
open_shape keys alias bytes answer out a = key_shape (key_at keys alias) alias bytes answer out a

cell_shape : (cell : Option (List ℕ)) → IsCellAnswer (cell_answer cell)
cell_shape None = tt
cell_shape (Some key) = tt

drawn_length : (noise : List ℕ) (len : ℕ) (out : List ℕ) → out ≡ drawn noise len → length out ≡ len
drawn_length noise len out is = omega (arith, ap length is, length-take len (noise ++ replicate len 0), length-append noise (replicate len 0), length-replicate {A = ℕ} len 0)

answers_shape : (w : World) (a : Action) (answer : Answer) (out : List ℕ) → ListsInOrder a out → Answers w a answer out → HasShape a answer out
answers_shape w ListNames answer out lists a = (a.0, lists)
answers_shape w (Read n) answer out lists a = read_shape (file_at w n) n answer out w refl a
answers_shape w (Make n len) answer out lists a = a
answers_shape w (Put n bytes) answer out lists a = a
answers_shape w (Poke n at bytes) answer out lists a = a
answers_shape w (Remove n) answer out lists a = a
answers_shape w Sync answer out lists a = a
answers_shape w (WeaverWrite slot key value) answer out lists a = a
answers_shape w (WeaverRead slot key moment) answer out lists a = (subst IsSlotAnswer (sym a.0) (slot_shape (slot_answer (slot_at w slot) key moment)), a.1)
answers_shape w (GkSign sid salt password) answer out lists a = (subst IsHandleAnswer (sym a.0) tt, a.1)
answers_shape w (GkEnroll sid) answer out lists a = a
answers_shape w (GkVerify handle password moment) answer out lists a = (subst IsVerifyAnswer (sym a.0) (verify_shape (sid_of handle) (is_signed w.gk_key handle password) moment (counter_of w.gk handle)), a.1)
answers_shape w (GkForget sid) answer out lists a = a
answers_shape w GkList answer out lists a = (a.0, lists)
answers_shape w (KeyPut alias key) answer out lists a = a
answers_shape w (KeyOpen alias bytes) answer out lists a = open_shape w.keys alias bytes answer out a
answers_shape w (KeyDrop alias) answer out lists a = a
answers_shape w KeyList answer out lists a = (a.0, lists)
answers_shape w (ResumeStore key) answer out lists a = a
answers_shape w ResumeTake answer out lists a = (subst IsCellAnswer (sym a.0) (cell_shape w.cell), a.1)
answers_shape w (Hear max) answer out lists (inl ended) = inl (ended.1, ended.2)
answers_shape w (Hear max) answer out lists (inr heard) = inr (heard.0, heard.1, heard.2)
answers_shape w (Say bytes) answer out lists a = a
answers_shape w Now answer out lists a = (subst IsMomentAnswer (sym a.0) tt, a.1)
answers_shape w (Draw len) answer out lists a = (a.0, drawn_length w.noise len out a.1)

-- ---- however a call went, the world is within it

touched_within : (w : World) (m : Mark) → IsTrue (is_sorted byte_cmp w.files) → MayHold (Some m.own) m.content (file_at w m.name) → MarkWithin w m (record w { touched = put byte_cmp m.name m.touch w.touched })
touched_within w m sorted holds = record {
  content = file_at w m.name;
  holds = holds;
  is = ap (λ (files : List (List ℕ × List ℕ)). record w { files = files; touched = put byte_cmp m.name m.touch w.touched }) (sym (with_file_same w.files m.name sorted));
}

idle_within : (w : World) (a : Action) → IsTrue (is_sorted byte_cmp w.files) → Applies w a → Within w a (touched_only w a)
idle_within w ListNames sorted applies = refl
idle_within w (Read n) sorted applies = refl
idle_within w (Make n len) sorted applies = touched_within w (make_mark w n len) sorted (inr (inl refl))
idle_within w (Put n bytes) sorted applies = touched_within w (put_mark w n bytes) sorted tt
idle_within w (Poke n at bytes) sorted applies = touched_within w (poke_mark w n at bytes) sorted (poked_from (file_at w n) at bytes applies)
idle_within w (Remove n) sorted applies = touched_within w (remove_mark w n) sorted tt
idle_within w Sync sorted applies = record { still = λ n. true; is = ap (λ (rows : List (List ℕ × Touch)). record w { touched = rows }) (sym (where_all w.touched)) }
idle_within w (WeaverWrite slot key value) sorted applies = inl refl
idle_within w (WeaverRead slot key moment) sorted applies = inl refl
idle_within w (GkSign sid salt password) sorted applies = refl
idle_within w (GkEnroll sid) sorted applies = inl refl
idle_within w (GkVerify handle password moment) sorted applies = inl refl
idle_within w (GkForget sid) sorted applies = inl refl
idle_within w GkList sorted applies = refl
idle_within w (KeyPut alias key) sorted applies = inl refl
idle_within w (KeyOpen alias bytes) sorted applies = refl
idle_within w (KeyDrop alias) sorted applies = inl refl
idle_within w KeyList sorted applies = refl
idle_within w (ResumeStore key) sorted applies = inl refl
idle_within w ResumeTake sorted applies = inl refl
idle_within w (Hear max) sorted applies = record { taken = 0; few = omega arith; is = refl }
idle_within w (Say bytes) sorted applies = record { told = 0; is = ap (λ (said : List ℕ). record w { said = said }) (sym (append-nil w.said)) }
idle_within w Now sorted applies = inl refl
idle_within w (Draw len) sorted applies = record { taken = 0; few = omega arith; is = refl }

whole_call : (w : World) (a : Action) (count : ℕ) → after_call w (changing a) true count ≡ after w a count
whole_call w ListNames count = refl
whole_call w (Read n) count = refl
whole_call w (Make n len) count = refl
whole_call w (Put n bytes) count = refl
whole_call w (Poke n at bytes) count = refl
whole_call w (Remove n) count = refl
whole_call w Sync count = refl
whole_call w (WeaverWrite slot key value) count = refl
whole_call w (WeaverRead slot key moment) count = refl
whole_call w (GkSign sid salt password) count = refl
whole_call w (GkEnroll sid) count = refl
whole_call w (GkVerify handle password moment) count = refl
whole_call w (GkForget sid) count = refl
whole_call w GkList count = refl
whole_call w (KeyPut alias key) count = refl
whole_call w (KeyOpen alias bytes) count = refl
whole_call w (KeyDrop alias) count = refl
whole_call w KeyList count = refl
whole_call w (ResumeStore key) count = refl
whole_call w ResumeTake count = refl
whole_call w (Hear max) count = refl
whole_call w (Say bytes) count = refl
whole_call w Now count = refl
whole_call w (Draw len) count = refl

idle_call : (w : World) (a : Action) (count : ℕ) → after_call w (changing a) false count ≡ touched_only w a
idle_call w ListNames count = refl
idle_call w (Read n) count = refl
idle_call w (Make n len) count = refl
idle_call w (Put n bytes) count = refl
idle_call w (Poke n at bytes) count = refl
idle_call w (Remove n) count = refl
idle_call w Sync count = refl
idle_call w (WeaverWrite slot key value) count = refl
idle_call w (WeaverRead slot key moment) count = refl
idle_call w (GkSign sid salt password) count = refl
idle_call w (GkEnroll sid) count = refl
idle_call w (GkVerify handle password moment) count = refl
idle_call w (GkForget sid) count = refl
idle_call w GkList count = refl
idle_call w (KeyPut alias key) count = refl
idle_call w (KeyOpen alias bytes) count = refl
idle_call w (KeyDrop alias) count = refl
idle_call w KeyList count = refl
idle_call w (ResumeStore key) count = refl
idle_call w ResumeTake count = refl
idle_call w (Hear max) count = refl
idle_call w (Say bytes) count = refl
idle_call w Now count = refl
idle_call w (Draw len) count = refl

in_file : (file : Option (List ℕ)) (at : ℕ) (bytes : List ℕ) → IsSomeAnd file (λ old. at + length bytes ≤ length old) → is_in_file file at bytes ≡ true
in_file None at bytes applies = absurd applies
in_file (Some old) at bytes applies = le-leb _ _ applies

pub action_fits : (w : World) (a : Action) → Applies w a → call_fits w (changing a) ≡ true
action_fits w ListNames applies = refl
action_fits w (Read n) applies = refl
action_fits w (Make n len) applies = refl
action_fits w (Put n bytes) applies = refl
action_fits w (Poke n at bytes) applies = in_file (file_at w n) at bytes applies
action_fits w (Remove n) applies = refl
action_fits w Sync applies = refl
action_fits w (WeaverWrite slot key value) applies = refl
action_fits w (WeaverRead slot key moment) applies = refl
action_fits w (GkSign sid salt password) applies = refl
action_fits w (GkEnroll sid) applies = refl
action_fits w (GkVerify handle password moment) applies = refl
action_fits w (GkForget sid) applies = refl
action_fits w GkList applies = refl
action_fits w (KeyPut alias key) applies = refl
action_fits w (KeyOpen alias bytes) applies = refl
action_fits w (KeyDrop alias) applies = refl
action_fits w KeyList applies = refl
action_fits w (ResumeStore key) applies = refl
action_fits w ResumeTake applies = refl
action_fits w (Hear max) applies = refl
action_fits w (Say bytes) applies = refl
action_fits w Now applies = refl
action_fits w (Draw len) applies = refl

-- a whole action is within it
whole_within : (s : Sight) (a : Action) (count : ℕ) → IsHearable s a count → Within s.world a (after s.world a count)
whole_within s ListNames count h = refl
whole_within s (Read n) count h = refl
whole_within s (Make n len) count h = whole_mark s.world (make_mark s.world n len)
whole_within s (Put n bytes) count h = whole_mark s.world (put_mark s.world n bytes)
whole_within s (Poke n at bytes) count h = whole_mark s.world (poke_mark s.world n at bytes)
whole_within s (Remove n) count h = whole_mark s.world (remove_mark s.world n)
whole_within s Sync count h = done_within s.world Sync Done [] (refl, refl)
whole_within s (WeaverWrite slot key value) count h = inr refl
whole_within s (WeaverRead slot key moment) count h = inr refl
whole_within s (GkSign sid salt password) count h = refl
whole_within s (GkEnroll sid) count h = inr refl
whole_within s (GkVerify handle password moment) count h = inr refl
whole_within s (GkForget sid) count h = inr refl
whole_within s GkList count h = refl
whole_within s (KeyPut alias key) count h = inr refl
whole_within s (KeyOpen alias bytes) count h = refl
whole_within s (KeyDrop alias) count h = inr refl
whole_within s KeyList count h = refl
whole_within s (ResumeStore key) count h = inr refl
whole_within s ResumeTake count h = inr refl
whole_within s (Hear max) count h = record { taken = count; few = h.0; is = refl }
whole_within s (Say bytes) count h = done_within s.world (Say bytes) Done [] (refl, refl)
whole_within s Now count h = inr refl
whole_within s (Draw len) count h = record { taken = len; few = omega arith; is = refl }

call_within : (s : Sight) (a : Action) (whole : Bool) (count : ℕ) → IsTrue (is_sorted byte_cmp s.world.files) → Applies s.world a → IsHearable s a count
    → Within s.world a (after_call s.world (changing a) whole count)
call_within s a true count sorted applies h = subst (Within s.world a) (sym (whole_call s.world a count)) (whole_within s a count h)
call_within s a false count sorted applies h = subst (Within s.world a) (sym (idle_call s.world a count)) (idle_within s.world a sorted applies)

-- what may lack memory has no effect on a file
lacking_same : (w : World) (a : Action) → MayLack a → touched_only w a ≡ w
lacking_same w ListNames may = refl
lacking_same w (Read n) may = refl
lacking_same w (Make n len) may = absurd may
lacking_same w (Put n bytes) may = absurd may
lacking_same w (Poke n at bytes) may = absurd may
lacking_same w (Remove n) may = absurd may
lacking_same w Sync may = absurd may
lacking_same w (WeaverWrite slot key value) may = absurd may
lacking_same w (WeaverRead slot key moment) may = absurd may
lacking_same w (GkSign sid salt password) may = absurd may
lacking_same w (GkEnroll sid) may = absurd may
lacking_same w (GkVerify handle password moment) may = absurd may
lacking_same w (GkForget sid) may = absurd may
lacking_same w GkList may = refl
lacking_same w (KeyPut alias key) may = absurd may
lacking_same w (KeyOpen alias bytes) may = refl
lacking_same w (KeyDrop alias) may = absurd may
lacking_same w KeyList may = refl
lacking_same w (ResumeStore key) may = absurd may
lacking_same w ResumeTake may = absurd may
lacking_same w (Hear max) may = refl
lacking_same w (Say bytes) may = absurd may
lacking_same w Now may = absurd may
lacking_same w (Draw len) may = refl

-- ---- what a failed call hears

pub most_hearable : (s : Sight) (a : Action) → IsHearable s a (most_heard s.world a)
most_hearable s ListNames = tt
most_hearable s (Read n) = tt
most_hearable s (Make n len) = tt
most_hearable s (Put n bytes) = tt
most_hearable s (Poke n at bytes) = tt
most_hearable s (Remove n) = tt
most_hearable s Sync = tt
most_hearable s (WeaverWrite slot key value) = tt
most_hearable s (WeaverRead slot key moment) = tt
most_hearable s (GkSign sid salt password) = tt
most_hearable s (GkEnroll sid) = tt
most_hearable s (GkVerify handle password moment) = tt
most_hearable s (GkForget sid) = tt
most_hearable s GkList = tt
most_hearable s (KeyPut alias key) = tt
most_hearable s (KeyOpen alias bytes) = tt
most_hearable s (KeyDrop alias) = tt
most_hearable s KeyList = tt
most_hearable s (ResumeStore key) = tt
most_hearable s ResumeTake = tt
most_hearable s (Hear max) = (omega arith, omega arith)
most_hearable s (Say bytes) = tt
most_hearable s Now = tt
most_hearable s (Draw len) = tt

-- ---- the three ends of a call

module _ (old new : Sight) (a : Action) where
  same_faults : (whole : Bool) (count : ℕ) → IsNoted old a whole false count new → new.faults ≡ old.faults
  same_faults whole count noted = λ i p. (noted.faults p ∙ add-zero (old.faults p)) i

  pub ok_acts : (answer : Answer) (out : List ℕ) → Answers old.world a answer out → ListsInOrder a out → IsNoted old a true false (length out) new → Acts old a (Ok answer) out new
  ok_acts answer out answers lists noted = record {
    told = noted.told;
    never_fails = noted.never_fails;
    slots = noted.slots;
    actions = noted.actions;
    bytes = noted.bytes;
    shape = answers_shape old.world a answer out lists answers;
    clear = λ other. no_bytes a answer out (answers_shape old.world a answer out lists answers) (λ is. other (ap Ok is));
    later = λ p. omega (arith, noted.faults p, add-zero (old.faults p));
    quiet = same_faults true (length out) noted;
    cause = λ p is. absurd (cc);
    memory = λ is. absurd (cc);
    moves = λ told. record {
      past = noted.past;
      done = (answers, noted.world ∙ whole_call old.world a (length out));
      failed = λ p is. absurd (cc);
      lacking = λ is. absurd (cc);
    };
  }

  pub failed_acts : (whole : Bool) (count : ℕ) (out : List ℕ) → out ≡ [] → IsTrue old.told → IsTrue (is_sorted byte_cmp old.world.files) → CanAct old a → IsHearable old a count
      → IsNoted old a whole true count new → Acts old a (Err (Failed (part_of a))) out new
  failed_acts whole count out none is_told sorted can h noted = record {
    told = noted.told;
    never_fails = noted.never_fails;
    slots = noted.slots;
    actions = noted.actions;
    bytes = noted.bytes;
    shape = tt;
    clear = λ other. none;
    later = λ p. omega (arith, noted.faults p);
    quiet = tt;
    cause = λ p is. (sym (same_part p is), subst (λ (q : Part). Rose (old.faults q) (new.faults q)) (same_part p is) rose);
    memory = λ is. absurd (cc);
    moves = λ told. record {
      past = noted.past;
      done = tt;
      failed = λ p is. subst (Within old.world a) (sym noted.world) (call_within old a whole count sorted (can.applies is_told) h);
      lacking = λ is. absurd (cc);
    };
  }
    where
      same_part : (p : Part) → ◌≡◌ {A = Result Answer BoardFault} (Err (Failed (part_of a))) (Err (Failed p)) → part_of a ≡ p
      same_part p is = cc

      rose : Rose (old.faults (part_of a)) (new.faults (part_of a))
      rose =
          let test : (number_of (part_of a) == number_of (part_of a)) ≡ true = eq-eqb _ _ refl in
          let more : new.faults (part_of a) ≡ old.faults (part_of a) + 1 = noted.faults (part_of a) ∙ ap (λ (b : Bool). old.faults (part_of a) + cond b 1 0) test in
          omega (arith, more)

  pub lacking_acts : (out : List ℕ) → out ≡ [] → MayLack a → IsNoted old a false false 0 new → Acts old a (Err Memory) out new
  lacking_acts out none may noted = record {
    told = noted.told;
    never_fails = noted.never_fails;
    slots = noted.slots;
    actions = noted.actions;
    bytes = noted.bytes;
    shape = tt;
    clear = λ other. none;
    later = λ p. omega (arith, noted.faults p, add-zero (old.faults p));
    quiet = tt;
    cause = λ p is. absurd (cc);
    memory = λ is. (may, same_faults false 0 noted);
    moves = λ told. record {
      past = noted.past;
      done = tt;
      failed = λ p is. absurd (cc);
      lacking = λ is. noted.world ∙ idle_call old.world a 0 ∙ lacking_same old.world a may;
    };
  }

-- ---- the listed calls

failed_is : (w : World) (a : Action) (done : Bool) → after_call w (changing a) done (most_heard w a) ≡ failed_world w a done
failed_is w a true = whole_call w a (most_heard w a)
failed_is w a false = idle_call w a (most_heard w a)

module _ (failures : List Failure) (old new : Sight) (a : Action) where
  pub listed_call : (done : Bool) → outcome_at failures (length old.past) ≡ Some done → IsNoted old a done true (most_heard old.world a) new
      → FailsAsListed failures old a (Err (Failed (part_of a))) new
  listed_call done is noted = record {
    listed = λ d also. let same : done ≡ d = cc in (refl, noted.world ∙ failed_is old.world a done ∙ ap (failed_world old.world a) same);
    unlisted = λ none. absurd (cc);
    counted = noted.faults;
  }

  pub done_call : (answer : Answer) (count : ℕ) → outcome_at failures (length old.past) ≡ None → IsNoted old a true false count new → FailsAsListed failures old a (Ok answer) new
  done_call answer count is noted = record {
    listed = λ d also. absurd (cc);
    unlisted = λ none p failed. absurd (cc);
    counted = noted.faults;
  }

  pub lacking_call : (count : ℕ) → outcome_at failures (length old.past) ≡ None → IsNoted old a false false count new → FailsAsListed failures old a (Err Memory) new
  lacking_call count is noted = record {
    listed = λ d also. absurd (cc);
    unlisted = λ none p failed. absurd (cc);
    counted = noted.faults;
  }
