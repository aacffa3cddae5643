-- What each call of the board makes of a run.
use Rattle.std.proofs.Common.{◌≡◌, ◌++◌, ℕ, Bool, IsTrue, List, [], ◌∷◌, length, take, drop, refl, sym, ◌∙◌, ap, subst, arith, inl, inr, append_assoc}
use Rattle.std.specs.Prelude.{Result, Ok, Err, Option, Some, MatchOption, IfErr}
use Rattle.std.proofs.lemmas.List.{append-nil, take-append-drop}
use Rattle.ls_board.specs.declared.action.Action.{Action}
use Rattle.ls_board.specs.declared.action.Action.TheVariants.{Put, Sync, Say}
use Rattle.ls_board.specs.declared.action.Answer.{Answer}
use Rattle.ls_board.specs.declared.action.BoardFault.{BoardFault}
use Rattle.ls_board.specs.declared.action.BoardFault.TheVariants.{Failed, Memory}
use Rattle.ls_board.specs.declared.world.World.{World}
use Rattle.ls_board.specs.Acts.{Sight, Acts, Moves, Readies}
use Rattle.ls_board.specs.Effect.{file_at, marked, put_mark}
use Rattle.ls_board.proofs.FileLemmas.{file_marked_same, file_marked_other}
use Rattle.ls_top.specs.Runs.{StandsFor, SaysFront, HoldsFront, IsInTurn, CallsInTurn, EndsWithPut}
use Rattle.ls_top.specs.declared.vault.Command.{Command}
use Rattle.ls_lines.specs.Lines.{lines_of}
use Rattle.ls_top.specs.Script.{Served, served, served_by, replies, users_after, told, after}
use Rattle.ls_top.specs.Serving.{Serving, Settled, CutShort, ComesNext, KeepsOthers}
use Rattle.ls_top.specs.UsersFile.{settings_0, file_of}
use Rattle.ls_top.specs.Vault.{IsVault}
use Rattle.ls_top.proofs.LineLemmas.{command_of_front}
use Rattle.ls_top.proofs.RepliesLemmas.{replies-append, replies_more, users_after-append, told-append, after-told, acknowledged_lines, acknowledged_part}

-- ---- calls

pub same_calls : (start now next : Sight) (first : List ℕ) → next.past ≡ now.past → CallsInTurn start now first → CallsInTurn start next first
same_calls start now next first same calls = record { calls = calls.calls; since = same ∙ calls.since; each = calls.each }

pub one_call : (start now next : Sight) (first : List ℕ) (call : World × Option Action) → next.past ≡ call ∷ now.past
    → IsInTurn start.world first call → CallsInTurn start now first → CallsInTurn start next first
one_call start now next first call past turn calls = record {
  calls = call ∷ calls.calls;
  since = past ∙ ap (λ (l : List (World × Option Action)). call ∷ l) calls.since;
  each = (turn, calls.each);
}

pub ready_world : (old new : Sight) (actions bytes : ℕ) {E : Type 0} (result : Result Unit E) → Readies old actions bytes result new → new.world ≡ old.world
ready_world old new actions bytes result ready = ap (λ (s : Sight). s.world) ready.same

pub ready_past : (old new : Sight) (actions bytes : ℕ) {E : Type 0} (result : Result Unit E) → Readies old actions bytes result new → new.past ≡ old.past
ready_past old new actions bytes result ready = ap (λ (s : Sight). s.past) ready.same

-- ---- where nothing was done

module _ (start now next : Sight) (first : List ℕ) (world : next.world ≡ now.world) (past : next.past ≡ now.past) where
  pub same_serving : (lines : List (List ℕ)) (users : List ℕ) → Serving start now first lines users → Serving start next first lines users
  same_serving lines users s = record {
    more = s.more;
    front = s.front;
    said = ap (λ (w : World). w.said) world ∙ s.said;
    reached = s.reached;
    stands = subst (λ (w : World). StandsFor w users) (sym world) s.stands;
    synced = ap (λ (w : World). w.touched) world ∙ s.synced;
    others = λ name other. ap (λ (w : World). file_at w name) world ∙ s.others name other;
    calls = same_calls start now next first past s.calls;
  }

  pub same_settled : (lines : List (List ℕ)) (line users : List ℕ) → Settled start now first lines line users → Settled start next first lines line users
  same_settled lines line users s = record {
    more = s.more;
    front = s.front;
    said = ap (λ (w : World). w.said) world ∙ s.said;
    reached = s.reached;
    stands = subst (λ (w : World). StandsFor w users) (sym world) s.stands;
    synced = ap (λ (w : World). w.touched) world ∙ s.synced;
    others = λ name other. ap (λ (w : World). file_at w name) world ∙ s.others name other;
    calls = same_calls start now next first past s.calls;
  }

-- ---- where the run is cut short

-- the replies to whole lines are a front of all
says_lines : (start now : Sight) (first : List ℕ) (lines more : List (List ℕ)) → lines_of start.world.input ≡ lines ++ more
    → now.world.said ≡ start.world.said ++ replies first lines → SaysFront start.world now.world first
says_lines start now first lines more front said = record {
  said = replies first lines;
  more = replies (users_after first lines) more;
  is = said;
  front = ap (replies first) front ∙ replies-append first lines more;
}

-- between two lines
module _ (start now : Sight) (first : List ℕ) (lines : List (List ℕ)) (users : List ℕ) (s : Serving start now first lines users) where
  users_are : after first (told first (lines_of start.world.input)) (length (told first lines)) ≡ users_after first lines
  users_are = ap (λ (l : List (List ℕ)). after first (told first l) (length (told first lines))) s.front
      ∙ ap (λ l. after first l (length (told first lines))) (told-append first lines s.more)
      ∙ after-told first lines (told (users_after first lines) s.more)

  pub says_between : SaysFront start.world now.world first
  says_between = says_lines start now first lines s.more s.front s.said

  pub holds_between : HoldsFront start.world now.world first
  holds_between = record {
    said = replies first lines;
    is = s.said;
    done = length (told first lines);
    enough = omega (arith, acknowledged_lines first (lines_of start.world.input) lines s.more s.front);
    few = omega (arith, acknowledged_lines first (lines_of start.world.input) lines s.more s.front);
    stands = subst (λ (u : List ℕ). StandsFor now.world u) (s.reached ∙ sym users_are) s.stands;
  }

  pub cut_between : (fault : BoardFault) → CutShort start now first fault
  cut_between fault = record { said = says_between; held = inr holds_between; others = s.others; calls = s.calls }

-- when a line's change was made, and a part of its reply was said
pub cut_within : (start now : Sight) (first : List ℕ) (lines : List (List ℕ)) (line : List ℕ) (more : List (List ℕ)) (users : List ℕ) (k : ℕ) (fault : BoardFault)
    → lines_of start.world.input ≡ lines ++ line ∷ more
    → now.world.said ≡ start.world.said ++ (replies first lines ++ take k (served (users_after first lines) line).printed)
    → users ≡ (served (users_after first lines) line).users → StandsFor now.world users
    → KeepsOthers start.world now.world → CallsInTurn start now first → CutShort start now first fault
cut_within start now first lines line more users k fault front said reached stands others calls = record {
  said = record {
    said = replies first lines ++ take k printed;
    more = drop k printed ++ replies (users_after first (lines ++ line ∷ [])) more;
    is = said;
    front = ap (replies first) (front ∙ sym (append_assoc lines (line ∷ []) more))
        ∙ replies-append first (lines ++ line ∷ []) more
        ∙ ap (λ (l : List ℕ). l ++ replies (users_after first (lines ++ line ∷ [])) more) (replies_more first lines line ∙ ap (λ (l : List ℕ). replies first lines ++ l) (sym (take-append-drop k printed)) ∙ sym (append_assoc (replies first lines) (take k printed) (drop k printed)))
        ∙ append_assoc (replies first lines ++ take k printed) (drop k printed) (replies (users_after first (lines ++ line ∷ [])) more);
  };
  held = inr (record {
    said = replies first lines ++ take k printed;
    is = said;
    done = length (told first (lines ++ line ∷ []));
    enough = (acknowledged_part first (lines_of start.world.input) lines line more k front).0;
    few = (acknowledged_part first (lines_of start.world.input) lines line more k front).1;
    stands = subst (λ (u : List ℕ). StandsFor now.world u) (reached ∙ sym users_are) stands;
  });
  others = others;
  calls = calls;
}
  where
    printed : List ℕ
    printed = (served (users_after first lines) line).printed

    users_are : after first (told first (lines_of start.world.input)) (length (told first (lines ++ line ∷ []))) ≡ (served (users_after first lines) line).users
    users_are = ap (λ (l : List (List ℕ)). after first (told first l) (length (told first (lines ++ line ∷ [])))) (front ∙ sym (append_assoc lines (line ∷ []) more))
        ∙ ap (λ l. after first l (length (told first (lines ++ line ∷ [])))) (told-append first (lines ++ line ∷ []) more)
        ∙ after-told first (lines ++ line ∷ []) (told (users_after first (lines ++ line ∷ [])) more)
        ∙ users_after-append first lines (line ∷ [])

-- ---- a reply is said

module _ (start old new : Sight) (first : List ℕ) (lines : List (List ℕ)) (line users text : List ℕ)
    (settled : Settled start old first lines line users) (reply : text ≡ (served (users_after first lines) line).printed) where
  printed : List ℕ
  printed = (served (users_after first lines) line).printed

  said_calls : new.past ≡ (old.world, Some (Say text)) ∷ old.past → CallsInTurn start new first
  said_calls past = one_call start old new first (old.world, Some (Say text)) past (record {
    before = lines;
    line = line;
    next = record { more = settled.more; lines = settled.front; answered = settled.said };
    reply = reply;
    synced = settled.synced;
    stands = subst (λ (u : List ℕ). StandsFor old.world u) settled.reached settled.stands;
  }) settled.calls

  pub said_ok : new.world ≡ record old.world { said = old.world.said ++ text } → new.past ≡ (old.world, Some (Say text)) ∷ old.past
      → Serving start new first (lines ++ line ∷ []) users
  said_ok world past = record {
    more = settled.more;
    front = settled.front ∙ sym (append_assoc lines (line ∷ []) settled.more);
    said = ap (λ (w : World). w.said) world
        ∙ ap (λ (l : List ℕ). l ++ text) settled.said
        ∙ append_assoc start.world.said (replies first lines) text
        ∙ ap (λ (l : List ℕ). start.world.said ++ l) (ap (λ (l : List ℕ). replies first lines ++ l) reply ∙ sym (replies_more first lines line));
    reached = settled.reached ∙ sym (users_after-append first lines (line ∷ []));
    stands = subst (λ (w : World). StandsFor w users) (sym world) (record { vault = settled.stands.vault; file = settled.stands.file });
    synced = ap (λ (w : World). w.touched) world ∙ settled.synced;
    others = λ name other. ap (λ (w : World). file_at w name) world ∙ settled.others name other;
    calls = said_calls past;
  }

  pub said_cut : (k : ℕ) (fault : BoardFault) → new.world ≡ record old.world { said = old.world.said ++ take k text }
      → new.past ≡ (old.world, Some (Say text)) ∷ old.past → CutShort start new first fault
  said_cut k fault world past = cut_within start new first lines line settled.more users k fault settled.front
      (ap (λ (w : World). w.said) world
      ∙ ap (λ (l : List ℕ). l ++ take k text) settled.said
      ∙ append_assoc start.world.said (replies first lines) (take k text)
      ∙ ap (λ (t : List ℕ). start.world.said ++ (replies first lines ++ take k t)) reply)
      settled.reached
      (subst (λ (w : World). StandsFor w users) (sym world) (record { vault = settled.stands.vault; file = settled.stands.file }))
      (λ name other. ap (λ (w : World). file_at w name) world ∙ settled.others name other)
      (said_calls past)

  -- whatever the call answers
  pub says_ok : (answer : Answer) (out : List ℕ) (a : Action) → IsTrue old.told → a ≡ Say text → Acts old a (Ok answer) out new
      → Serving start new first (lines ++ line ∷ []) users
  says_ok answer out a told is acts =
      let moves = (subst (λ (b : Action). Acts old b (Ok answer) out new) is acts).moves told in
      said_ok moves.done.1 moves.past

  pub says_cut : (fault : BoardFault) (out : List ℕ) (a : Action) → IsTrue old.told → a ≡ Say text → Acts old a (Err fault) out new
      → CutShort start new first fault
  says_cut (Failed part) out a told is acts =
      let moves = (subst (λ (b : Action). Acts old b (Err (Failed part)) out new) is acts).moves told in
      let within = moves.failed part refl in
      said_cut within.told (Failed part) within.is moves.past
  says_cut Memory out a told is acts =
      absurd ((subst (λ (b : Action). Acts old b (Err Memory) out new) is acts).memory refl).0

-- ---- the users' file is put, and synced

module _ (start old : Sight) (first : List ℕ) (lines : List (List ℕ)) (line before users : List ℕ)
    (next : ComesNext start lines line) (serving : Serving start old first lines before)
    (is : users ≡ (served before line).users) (vault : IsVault users) where
  reached : users ≡ (served (users_after first lines) line).users
  reached = is ∙ ap (λ (u : List ℕ). (served u line).users) serving.reached

  put_calls : (new : Sight) → new.past ≡ (old.world, Some (Put settings_0 (file_of users))) ∷ old.past → CallsInTurn start new first
  put_calls new past = one_call start old new first (old.world, Some (Put settings_0 (file_of users))) past (record {
    before = lines;
    line = line;
    next = record { more = next.0; lines = next.1; answered = serving.said };
    named = refl;
    file = ap file_of reached;
    stands = subst (λ (u : List ℕ). StandsFor old.world u) serving.reached serving.stands;
  }) serving.calls

  pub puts_cut : (new : Sight) (fault : BoardFault) (out : List ℕ) (a : Action) → IsTrue old.told → a ≡ Put settings_0 (file_of users)
      → Acts old a (Err fault) out new → CutShort start new first fault
  puts_cut new (Failed part) out a told same acts =
      let put = subst (λ (b : Action). Acts old b (Err (Failed part)) out new) same acts in
      let moves = put.moves told in
      let within = moves.failed part refl in
      record {
        said = says_lines start new first lines serving.more serving.front (ap (λ (w : World). w.said) within.is ∙ serving.said);
        held = inl (ap Failed (put.cause part refl).0, subst EndsWithPut (sym moves.past) tt);
        others = λ name other. ap (λ (w : World). file_at w name) within.is
            ∙ file_marked_other old.world (record (put_mark old.world settings_0 (file_of users)) { content = within.content }) name other
            ∙ serving.others name other;
        calls = put_calls new moves.past;
      }
  puts_cut new Memory out a told same acts =
      absurd ((subst (λ (b : Action). Acts old b (Err Memory) out new) same acts).memory refl).0

  -- the put was done, and the sync comes next
  module _ (mid new : Sight) (answer : Answer) (out more : List ℕ) (put sync : Action) (told : IsTrue old.told)
      (same : put ≡ Put settings_0 (file_of users)) (done : Acts old put (Ok answer) out mid) (syncs : sync ≡ Sync) where
    put_moves : Moves old (Put settings_0 (file_of users)) (Ok answer) out mid
    put_moves = (subst (λ (b : Action). Acts old b (Ok answer) out mid) same done).moves told

    mid_world : mid.world ≡ marked old.world (put_mark old.world settings_0 (file_of users))
    mid_world = put_moves.done.1

    mid_file : file_at mid.world settings_0 ≡ Some (file_of users)
    mid_file = ap (λ (w : World). file_at w settings_0) mid_world ∙ file_marked_same old.world (put_mark old.world settings_0 (file_of users))

    mid_others : KeepsOthers start.world mid.world
    mid_others = λ name other. ap (λ (w : World). file_at w name) mid_world
        ∙ file_marked_other old.world (put_mark old.world settings_0 (file_of users)) name other ∙ serving.others name other

    mid_told : IsTrue mid.told
    mid_told = subst (λ (b : Bool). IsTrue b) (sym done.told) told

    stands_for : (w : World) → file_at w settings_0 ≡ Some (file_of users) → StandsFor w users
    stands_for w file = record {
      vault = vault;
      file = subst (λ (o : Option (List ℕ)). MatchOption o (users ≡ []) (λ bytes. bytes ≡ file_of users)) (sym file) refl;
    }

    sync_calls : new.past ≡ (mid.world, Some Sync) ∷ mid.past → CallsInTurn start new first
    sync_calls past = one_call start mid new first (mid.world, Some Sync) past tt (put_calls mid put_moves.past)

    pub syncs_ok : (second : Answer) → Acts mid sync (Ok second) more new → Settled start new first lines line users
    syncs_ok second acts =
        let moves = (subst (λ (b : Action). Acts mid b (Ok second) more new) syncs acts).moves mid_told in
        let world : new.world ≡ record mid.world { touched = [] } = moves.done.1 in
        record {
          more = next.0;
          front = next.1;
          said = ap (λ (w : World). w.said) world ∙ ap (λ (w : World). w.said) mid_world ∙ serving.said;
          reached = reached;
          stands = stands_for new.world (ap (λ (w : World). file_at w settings_0) world ∙ mid_file);
          synced = ap (λ (w : World). w.touched) world;
          others = λ name other. ap (λ (w : World). file_at w name) world ∙ mid_others name other;
          calls = sync_calls moves.past;
        }

    pub syncs_cut : (fault : BoardFault) → Acts mid sync (Err fault) more new → CutShort start new first fault
    syncs_cut (Failed part) acts =
        let moves = (subst (λ (b : Action). Acts mid b (Err (Failed part)) more new) syncs acts).moves mid_told in
        let within = moves.failed part refl in
        cut_within start new first lines line next.0 users 0 (Failed part) next.1
        (ap (λ (w : World). w.said) within.is ∙ ap (λ (w : World). w.said) mid_world ∙ serving.said
        ∙ ap (λ (l : List ℕ). start.world.said ++ l) (sym (append-nil (replies first lines))))
        reached
        (stands_for new.world (ap (λ (w : World). file_at w settings_0) within.is ∙ mid_file))
        (λ name other. ap (λ (w : World). file_at w name) within.is ∙ mid_others name other)
        (sync_calls moves.past)
    syncs_cut Memory acts = absurd ((subst (λ (b : Action). Acts mid b (Err Memory) more new) syncs acts).memory refl).0

-- ---- through the calls of the functions

pub any_err : {T E : Type 0} (r : Result T E) (P : E → Type 0) → ((e : E) → P e) → IfErr r P
any_err (Ok x) P all = tt
any_err (Err e) P all = all e

module _ (old new : Sight) (actions bytes : ℕ) {E : Type 0} (result : Result Unit E) (ready : Readies old actions bytes result new) where
  pub ready_told : IsTrue old.told → IsTrue new.told
  ready_told told = subst (λ (b : Bool). IsTrue b) (sym (ap (λ (s : Sight). s.told) ready.same)) told

  pub ready_serving : (start : Sight) (first : List ℕ) (lines : List (List ℕ)) (users : List ℕ) → Serving start old first lines users → Serving start new first lines users
  ready_serving start first lines users = same_serving start old new first (ready_world old new actions bytes result ready) (ready_past old new actions bytes result ready) lines users

  pub ready_settled : (start : Sight) (first : List ℕ) (lines : List (List ℕ)) (line users : List ℕ) → Settled start old first lines line users → Settled start new first lines line users
  ready_settled start first lines line users = same_settled start old new first (ready_world old new actions bytes result ready) (ready_past old new actions bytes result ready) lines line users

-- a line's change was made, and nothing was said yet
pub cut_settled : (start now : Sight) (first : List ℕ) (lines : List (List ℕ)) (line users : List ℕ) (fault : BoardFault)
    → Settled start now first lines line users → CutShort start now first fault
cut_settled start now first lines line users fault s =
    cut_within start now first lines line s.more users 0 fault s.front
    (s.said ∙ ap (λ (l : List ℕ). start.world.said ++ l) (sym (append-nil (replies first lines))))
    s.reached s.stands s.others s.calls

-- a line that changes nothing
pub settled_same : (start now : Sight) (first : List ℕ) (lines : List (List ℕ)) (line before users : List ℕ)
    → ComesNext start lines line → Serving start now first lines before → users ≡ before → users ≡ (served before line).users
    → Settled start now first lines line users
settled_same start now first lines line before users next s same is = record {
  more = next.0;
  front = next.1;
  said = s.said;
  reached = is ∙ ap (λ (u : List ℕ). (served u line).users) s.reached;
  stands = subst (λ (u : List ℕ). StandsFor now.world u) (sym same) s.stands;
  synced = s.synced;
  others = s.others;
  calls = s.calls;
}

pub printed_same : (start now : Sight) (first : List ℕ) (lines : List (List ℕ)) (line before text : List ℕ)
    → Serving start now first lines before → text ≡ (served before line).printed → text ≡ (served (users_after first lines) line).printed
printed_same start now first lines line before text s is = is ∙ ap (λ (u : List ℕ). (served u line).printed) s.reached

pub same_put : (name bytes n b : List ℕ) → name ≡ n → bytes ≡ b → ◌≡◌ {A = Action} (Put name bytes) (Put n b)
same_put name bytes n b names contents = ap (λ (l : List ℕ). Put l bytes) names ∙ ap (λ (l : List ℕ). Put n l) contents

-- the reply to a line of which a front is given
pub served_front : (users line : List ℕ) → served users (take 4097 line) ≡ served users line
served_front users line = ap (λ (o : Option Command). served_by users o) (command_of_front line)

module _ (users line whole : List ℕ) (kept : line ≡ take 4097 whole) where
  front_served : served users line ≡ served users whole
  front_served = ap (served users) kept ∙ served_front users whole

  pub front_users : (new : List ℕ) → (served users line).users ≡ new → new ≡ (served users whole).users
  front_users new is = sym is ∙ ap (λ (s : Served). s.users) front_served

  pub front_printed : (text : List ℕ) → (served users line).printed ≡ text → text ≡ (served users whole).printed
  front_printed text is = sym is ∙ ap (λ (s : Served). s.printed) front_served
