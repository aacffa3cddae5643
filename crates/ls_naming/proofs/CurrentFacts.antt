-- Worked values: what some settings files say.
use Rattle.std.proofs.Common.{◌≡◌, ℕ, false, List, [], ◌∷◌, ◌++◌, None, Some, Ok, Err, refl}
use Rattle.ls_credential.specs.declared.kind.Kind.TheVariants.{Empty}
use Rattle.ls_formats.specs.declared.side.Side.TheVariants.{First, Second}
use Rattle.ls_record.specs.declared.row.UserRow.{UserRow}
use Rattle.ls_record.specs.Rows.{rec}
use Rattle.ls_record.specs.Reading.{number, repeat, flags_at, token_list_at, row_at, next_row_at, armed_at, body_at}
use Rattle.ls_record.specs.EditReading.{put_at, edit_at}
use Rattle.ls_naming.specs.Current.{current_side, entry_places, places_from, journal_end, front_says, file_says, unsettled, current}

-- no file, no settings
blank : current (λ name. None) ≡ Ok unsettled
blank = refl

-- ---- heads

-- an open file with this sequence number in its head
head : ℕ → List ℕ
head sequence = 0xa5 ∷ 0 ∷ 0 ∷ 0 ∷ 0 ∷ 0 ∷ 0 ∷ 0 ∷ sequence ∷ []

-- the first of two files with one sequence number
tie : current_side (Some (head 4)) (Some (head 4)) ≡ Some First
unfolding head
tie = refl

greater : current_side (Some (head 4)) (Some (head 5)) ≡ Some Second
unfolding head
greater = refl

-- a closed file doesn't count
closed : current_side (Some (head 4)) (Some (0 ∷ head 5)) ≡ Some First
unfolding head
closed = refl

-- a file of 8 bytes has the sequence number 0
short_head : current_side (Some (0xa5 ∷ 9 ∷ 9 ∷ 9 ∷ 9 ∷ 9 ∷ 9 ∷ 9 ∷ [])) (Some (head 1)) ≡ Some Second
unfolding head
short_head = refl

-- ---- a journal

-- a user without a credential, whose protector has this id
plain : ℕ → ℕ → UserRow
plain user protector = record { user = user; escrow = false; kind = Empty; auto = false; pin = 0; protector = protector; secure = 0; tokens = [] }

row_text : ℕ → ℕ → List ℕ
row_text user protector =
    0 ∷ 0 ∷ 0 ∷ user ∷ 0 ∷ 0 ∷ 0 ∷ 0 ∷ 0 ∷ 0 ∷ 0 ∷ 0 ∷ 0 ∷ 0 ∷ 0 ∷ protector ∷ 0 ∷ 0 ∷ 0 ∷ 0 ∷ 0 ∷ 0 ∷ 0 ∷ 0 ∷ 0 ∷ []

-- a file with user 0 in its body, and an entry that puts user 1
body : List ℕ
body = 2 ∷ 1 ∷ (row_text 0 2 ++ 0 ∷ [])

entry : List ℕ
entry = 0xa5 ∷ 0 ∷ 0 ∷ 0 ∷ 26 ∷ 1 ∷ row_text 1 4

file : List ℕ
file = head 1 ++ (0x80 ∷ 0 ∷ 0 ∷ 28 ∷ body) ++ entry ++ 0 ∷ 7 ∷ 7 ∷ []

places : entry_places file ≡ 41 ∷ []
unfolding head row_text body entry file places_from
places = refl

end : journal_end file ≡ Some 72
unfolding head row_text body entry file places_from
end = refl

both_users : front_says file ≡ Ok (rec (plain 0 2 ∷ plain 1 4 ∷ []) None)
unfolding head plain row_text body entry file places_from number repeat flags_at token_list_at row_at next_row_at armed_at body_at put_at edit_at
both_users = refl

-- the same file without the bit for a journal
old_file : List ℕ
old_file = head 1 ++ (0 ∷ 0 ∷ 0 ∷ 28 ∷ body) ++ entry

one_user : front_says old_file ≡ Ok (rec (plain 0 2 ∷ []) None)
unfolding head plain row_text body entry old_file places_from number repeat flags_at token_list_at row_at next_row_at armed_at body_at put_at edit_at
one_user = refl

-- ---- faults

-- an open entry behind a body of format 01, with a length of 4,096
long_entry : List ℕ
long_entry =
    head 1 ++ (0x80 ∷ 0 ∷ 0 ∷ 26 ∷ 1 ∷ 1 ∷ 0 ∷ 0 ∷ 0 ∷ 0 ∷ 0 ∷ 0 ∷ 0 ∷ 0 ∷ 0 ∷ 0 ∷ 0 ∷ 0 ∷ 0 ∷ 2 ∷ 0 ∷ 0 ∷ 0 ∷ 0 ∷ 0 ∷ 0 ∷ 0 ∷ 0 ∷ 0 ∷ 0 ∷ []) ++ 0xa5 ∷ 0 ∷ 0 ∷ 0x10 ∷ 0 ∷ []

too_long : file_says long_entry ≡ Err 40
unfolding head long_entry places_from number repeat flags_at token_list_at row_at next_row_at armed_at body_at put_at edit_at
too_long = refl

-- a file that ends behind its journal
too_short : file_says file ≡ Err 75
unfolding head row_text body entry file places_from number repeat flags_at token_list_at row_at next_row_at armed_at body_at put_at edit_at
too_short = refl

-- a body length above 4,083
long_body : file_says (head 1 ++ 0x80 ∷ 0 ∷ 0x0f ∷ 0xf4 ∷ []) ≡ Err 9
unfolding head
long_body = refl
