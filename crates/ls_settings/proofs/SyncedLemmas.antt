-- What a crash leaves of an action on a settings file that is followed by a sync.
use Rattle.std.proofs.Common.{◌≡◌, ◌⊎◌, inl, inr, ⊎_elim, ◌≤◌, ◌<◌, ◌+◌, ◌-◌, ℕ, false, List, [], ◌∷◌, ◌++◌, length, take, drop, replicate, zero, suc, get_or, Option, None, Some, refl, sym, ◌∙◌, ap, subst, arith, length-append, length-take, length-drop}
use Rattle.std.proofs.lemmas.List.{get_or_append_left, get_or-append_right, get_or-take, get_or-drop}
use Rattle.ls_formats.specs.declared.side.Side.{Side}
use Rattle.ls_formats.specs.PartNames.{settings_text}
use Rattle.ls_naming.specs.Current.{is_open}
use Rattle.ls_board.specs.declared.action.Action.{Action}
use Rattle.ls_board.specs.declared.action.Action.TheVariants.{Make, Poke, Sync}
use Rattle.ls_board.specs.declared.touch.Touch.{Touch}
use Rattle.ls_board.specs.declared.touch.Touch.TheVariants.{Poked, Made}
use Rattle.ls_board.specs.declared.world.World.{World}
use Rattle.ls_board.specs.Effect.{file_at, touch_at, make_mark, poke_mark, poked_bytes, poked_content, made_touch, span_of, after}
use Rattle.ls_board.specs.Images.{SameOutside, PokedFrom, MayHold, IsShortZeros, Leaves, LeavesWithin}
use Rattle.ls_board.specs.Runs.{PlanImage}
use Rattle.ls_board.proofs.CrashLemmas.{untouched, untouched_within, poke_images, sync_images, poked_file, poked_touched}
use Rattle.ls_board.proofs.FileLemmas.{file_marked_same, file_marked_other, touch_marked_same, touch_marked_other}
use Rattle.ls_settings.specs.Loaded.{other_side}
use Rattle.ls_settings.specs.Commits.{synced}
use Rattle.ls_settings.specs.Loading.{IsSameOrShut}
use Rattle.ls_settings.proofs.SideLemmas.{names_apart, some_names_apart}

-- the two files hold these, and neither is touched
pub record Holds (w : World) (side : Side) (mine other : Option (List ℕ)) : Type 0 where
  pub file : file_at w (settings_text side) ≡ mine
  pub beside : file_at w (settings_text (other_side side)) ≡ other
  pub still : (s : Side) → touch_at w (settings_text s) ≡ None

-- in an image the file of a side has P, and the other one is as it was
pub record Pair (image : World) (side : Side) (P : Option (List ℕ) → Type 0) (other : Option (List ℕ)) : Type 0 where
  pub target : P (file_at image (settings_text side))
  pub beside : file_at image (settings_text (other_side side)) ≡ other

pub left_pair : (w image : World) (side : Side) (mine other : Option (List ℕ)) → Holds w side mine other → Leaves w image → Pair image side (λ f. f ≡ mine) other
left_pair w image side mine other h left = record {
  target = untouched w image (settings_text side) (h.still side) left ∙ h.file;
  beside = untouched w image (settings_text (other_side side)) (h.still (other_side side)) left ∙ h.beside;
}

-- ---- a file that is poked

pub length_poked : (old : List ℕ) (at : ℕ) (bytes : List ℕ) → at + length bytes ≤ length old → length (poked_bytes old at bytes) ≡ length old
length_poked old at bytes fits = omega (arith, length-append (take at old ++ bytes) (drop (at + length bytes) old), length-append (take at old) bytes, length-take at old, length-drop (at + length bytes) old)

-- it may be left as it was
pub poked_back : (old : List ℕ) (at : ℕ) (bytes : List ℕ) → at + length bytes ≤ length old → SameOutside (span_of at bytes ∷ []) (poked_bytes old at bytes) old
poked_back old at bytes fits = record {
  long = sym (length_poked old at bytes fits);
  kept = λ i out. before_or_behind i out.0;
}
  where
    front : length (take at old) ≡ at
    front = omega (arith, length-take at old)

    both : length (take at old ++ bytes) ≡ at + length bytes
    both = omega (arith, length-append (take at old) bytes, front)

    before_or_behind : (i : ℕ) → (i < at) ⊎ (at + length bytes ≤ i) → get_or old i 0 ≡ get_or (poked_bytes old at bytes) i 0
    before_or_behind i (inl before) =
        sym (get_or_append_left (take at old ++ bytes) (drop (at + length bytes) old) 0 i (omega (arith, both))
        ∙ get_or_append_left (take at old) bytes 0 i (omega (arith, front)) ∙ get_or-take at old i 0 before)
    before_or_behind i (inr behind) =
        sym (get_or-append_right (take at old ++ bytes) (drop (at + length bytes) old) (at + length bytes) i 0 both behind
        ∙ get_or-drop (at + length bytes) old (i - (at + length bytes)) 0 ∙ ap (λ (k : ℕ). get_or old k 0) (omega arith))

-- the world with an action that is on the disk
abbrev pub then_synced : World → Action → World
then_synced w a = after (after w a 0) Sync 0

module _ (w : World) (side : Side) (bytes : List ℕ) (other : Option (List ℕ)) (h : Holds w side (Some bytes) other) (at : ℕ) (b : List ℕ) where
  abbrev poke : Action
  poke = Poke (settings_text side) at b

  abbrev v : World
  v = after w poke 0

  v_file : file_at v (settings_text side) ≡ Some (poked_bytes bytes at b)
  v_file = poked_file w (settings_text side) at b ∙ ap (λ (c : Option (List ℕ)). poked_content c at b) h.file

  v_beside : file_at v (settings_text (other_side side)) ≡ other
  v_beside = file_marked_other w (poke_mark w (settings_text side) at b) (settings_text (other_side side)) (names_apart side) ∙ h.beside

  v_touch : touch_at v (settings_text side) ≡ Some (Poked (span_of at b ∷ []))
  v_touch = poked_touched w (settings_text side) at b (h.still side)

  v_still : touch_at v (settings_text (other_side side)) ≡ None
  v_still = touch_marked_other w (poke_mark w (settings_text side) at b) (settings_text (other_side side)) (names_apart side) ∙ h.still (other_side side)

  pub poke_holds : Holds (then_synced w poke) side (Some (poked_bytes bytes at b)) other
  poke_holds = record { file = v_file; beside = v_beside; still = λ s. refl }

  abbrev pub Torn : Option (List ℕ) → Type 0
  Torn file = PokedFrom (span_of at b ∷ []) (Some (poked_bytes bytes at b)) file

  held : (file : Option (List ℕ)) → MayHold (touch_at v (settings_text side)) (file_at v (settings_text side)) file → Torn file
  held file may = subst (λ (t : Option Touch). MayHold t (Some (poked_bytes bytes at b)) file) v_touch
      (subst (λ (c : Option (List ℕ)). MayHold (touch_at v (settings_text side)) c file) v_file may)

  -- an image before the poke is on the disk
  pub poke_pair : at + length b ≤ length bytes → (rest : List Action) (image : World) → PlanImage w (poke ∷ Sync ∷ rest) image → Pair image side Torn other ⊎ PlanImage (then_synced w poke) rest image
  poke_pair fits rest image (inl left) =
      let pair = left_pair w image side (Some bytes) other h left in
      inl (record { target = subst Torn (sym pair.target) (poked_back bytes at b fits); beside = pair.beside })
  poke_pair fits rest image (inr (inl within)) = inl (record {
    target = subst (λ (c : Option (List ℕ)). PokedFrom (span_of at b ∷ []) (poked_content c at b) (file_at image (settings_text side))) h.file
        (poke_images w image (settings_text side) at b (h.still side) within);
    beside = untouched_within w image poke (settings_text (other_side side)) (some_names_apart side) (h.still (other_side side)) within ∙ h.beside;
  })
  poke_pair fits rest image (inr (inr (inl left))) = inl (record {
    target = held (file_at image (settings_text side)) (left.each (settings_text side));
    beside = untouched v image (settings_text (other_side side)) v_still left ∙ v_beside;
  })
  poke_pair fits rest image (inr (inr (inr (inl within)))) = inl (record {
    target = held (file_at image (settings_text side)) (sync_images v image (settings_text side) within);
    beside = untouched_within v image Sync (settings_text (other_side side)) (λ e. absurd (cc)) v_still within ∙ v_beside;
  })
  poke_pair fits rest image (inr (inr (inr (inr later)))) = inr later

-- ---- a file that is made

zeros_shut : (n : ℕ) → is_open (Some (replicate n 0)) ≡ false
zeros_shut zero = refl
zeros_shut (suc n) = refl

short_shut : (now file : Option (List ℕ)) → IsShortZeros now file → is_open file ≡ false
short_shut now None short = refl
short_shut (Some now) (Some file) short = ap (λ (l : List ℕ). is_open (Some l)) short.2 ∙ zeros_shut short.0
short_shut None (Some file) short = absurd short

made_shut : (mine now file : Option (List ℕ)) → IsSameOrShut mine now → MayHold (Some (Made mine)) now file → IsSameOrShut mine file
made_shut mine now file was (inl same) = subst (IsSameOrShut mine) (sym same) was
made_shut mine now file was (inr (inl back)) = inl back
made_shut mine now file was (inr (inr (inl gone))) = inr (ap is_open gone)
made_shut mine now file was (inr (inr (inr short))) = inr (short_shut now file short)

module _ (w : World) (side : Side) (mine other : Option (List ℕ)) (h : Holds w side mine other) (len : ℕ) where
  abbrev make : Action
  make = Make (settings_text side) len

  abbrev m : World
  m = after w make 0

  m_file : file_at m (settings_text side) ≡ Some (replicate len 0)
  m_file = file_marked_same w (make_mark w (settings_text side) len)

  m_beside : file_at m (settings_text (other_side side)) ≡ other
  m_beside = file_marked_other w (make_mark w (settings_text side) len) (settings_text (other_side side)) (names_apart side) ∙ h.beside

  made_is : Some (made_touch (touch_at w (settings_text side)) (file_at w (settings_text side))) ≡ Some (Made mine)
  made_is = λ i. Some (made_touch (h.still side i) (h.file i))

  m_touch : touch_at m (settings_text side) ≡ Some (Made mine)
  m_touch = touch_marked_same w (make_mark w (settings_text side) len) ∙ made_is

  m_still : touch_at m (settings_text (other_side side)) ≡ None
  m_still = touch_marked_other w (make_mark w (settings_text side) len) (settings_text (other_side side)) (names_apart side) ∙ h.still (other_side side)

  pub make_holds : Holds (then_synced w make) side (Some (replicate len 0)) other
  make_holds = record { file = m_file; beside = m_beside; still = λ s. refl }

  made : (file : Option (List ℕ)) → MayHold (touch_at m (settings_text side)) (file_at m (settings_text side)) file → IsSameOrShut mine file
  made file may = made_shut mine (Some (replicate len 0)) file (inr (zeros_shut len))
      (subst (λ (t : Option Touch). MayHold t (Some (replicate len 0)) file) m_touch
      (subst (λ (c : Option (List ℕ)). MayHold (touch_at m (settings_text side)) c file) m_file may))

  within_made : (image : World) → LeavesWithin w make image → IsSameOrShut mine (file_at image (settings_text side))
  within_made image within =
      let part = record (make_mark w (settings_text side) len) { content = within.1.content } in
      let touch : touch_at within.0 (settings_text side) ≡ Some (Made mine) =
      ap (λ (u : World). touch_at u (settings_text side)) within.1.is ∙ touch_marked_same w part ∙ made_is in
      let file : file_at within.0 (settings_text side) ≡ within.1.content =
      ap (λ (u : World). file_at u (settings_text side)) within.1.is ∙ file_marked_same w part in
      let first = made_shut mine (Some (replicate len 0)) within.1.content (inr (zeros_shut len))
      (subst (λ (c : Option (List ℕ)). MayHold (Some (Made c)) (Some (replicate len 0)) within.1.content) h.file within.1.holds) in
      made_shut mine within.1.content (file_at image (settings_text side)) first
      (subst (λ (t : Option Touch). MayHold t within.1.content (file_at image (settings_text side))) touch
      (subst (λ (c : Option (List ℕ)). MayHold (touch_at within.0 (settings_text side)) c (file_at image (settings_text side))) file (within.2.each (settings_text side))))

  -- an image before the file is on the disk
  pub make_pair : (rest : List Action) (image : World) → PlanImage w (make ∷ Sync ∷ rest) image → Pair image side (IsSameOrShut mine) other ⊎ PlanImage (then_synced w make) rest image
  make_pair rest image (inl left) =
      let pair = left_pair w image side mine other h left in
      inl (record { target = inl pair.target; beside = pair.beside })
  make_pair rest image (inr (inl within)) = inl (record {
    target = within_made image within;
    beside = untouched_within w image make (settings_text (other_side side)) (some_names_apart side) (h.still (other_side side)) within ∙ h.beside;
  })
  make_pair rest image (inr (inr (inl left))) = inl (record {
    target = made (file_at image (settings_text side)) (left.each (settings_text side));
    beside = untouched m image (settings_text (other_side side)) m_still left ∙ m_beside;
  })
  make_pair rest image (inr (inr (inr (inl within)))) = inl (record {
    target = made (file_at image (settings_text side)) (sync_images m image (settings_text side) within);
    beside = untouched_within m image Sync (settings_text (other_side side)) (λ e. absurd (cc)) m_still within ∙ m_beside;
  })
  make_pair rest image (inr (inr (inr (inr later)))) = inr later

-- ---- pokes in a row

-- these bytes from these places on
abbrev pub pokes_of : Side → List (ℕ × List ℕ) → List Action
pokes_of side [] = []
pokes_of side (p ∷ pokes) = Poke (settings_text side) p.0 p.1 ∷ pokes_of side pokes

-- each lies between the two places
abbrev pub AllBetween : ℕ → ℕ → List (ℕ × List ℕ) → Type 0
AllBetween first end [] = Unit {0}
AllBetween first end (p ∷ pokes) = (first ≤ p.0) × (p.0 + length p.1 ≤ end) × AllBetween first end pokes

module _ (first len : ℕ) where
  abbrev pub Between : List ℕ → Option (List ℕ) → Type 0
  Between f file = PokedFrom (record { at = first; len = len } ∷ []) (Some f) file

  narrower : (at : ℕ) (b : List ℕ) → first ≤ at → at + length b ≤ first + len → (i : ℕ) → (i < first) ⊎ (first + len ≤ i) → (i < at) ⊎ (at + length b ≤ i)
  narrower at b low high i (inl before) = inl (omega arith)
  narrower at b low high i (inr behind) = inr (omega arith)

  -- a torn poke changes no other bytes
  widened : (f : List ℕ) (at : ℕ) (b : List ℕ) → at + length b ≤ length f → first ≤ at → at + length b ≤ first + len
      → (file : Option (List ℕ)) → PokedFrom (span_of at b ∷ []) (Some (poked_bytes f at b)) file → Between f file
  widened f at b fits low high None torn = absurd torn
  widened f at b fits low high (Some g) torn = record {
    long = torn.long ∙ length_poked f at b fits;
    kept = λ i out.
        let other = narrower at b low high i out.0 in
        torn.kept i (other, tt) ∙ sym ((poked_back f at b fits).kept i (other, tt));
  }

  behind_poke : (f : List ℕ) (at : ℕ) (b : List ℕ) → at + length b ≤ length f → first ≤ at → at + length b ≤ first + len
      → (file : Option (List ℕ)) → Between (poked_bytes f at b) file → Between f file
  behind_poke f at b fits low high None torn = absurd torn
  behind_poke f at b fits low high (Some g) torn = record {
    long = torn.long ∙ length_poked f at b fits;
    kept = λ i out. torn.kept i out ∙ sym ((poked_back f at b fits).kept i (narrower at b low high i out.0, tt));
  }

  -- each image of them changes bytes between the two places alone
  pub pokes_pair : (w : World) (side : Side) (f : List ℕ) (other : Option (List ℕ)) → Holds w side (Some f) other → first + len ≤ length f → (pokes : List (ℕ × List ℕ)) → AllBetween first (first + len) pokes
      → (image : World) → PlanImage w (synced (pokes_of side pokes)) image → Pair image side (Between f) other
  pokes_pair w side f other h long [] all image left =
      let pair = left_pair w image side (Some f) other h left in
      record { target = subst (Between f) (sym pair.target) (record { long = refl; kept = λ i out. refl }); beside = pair.beside }
  pokes_pair w side f other h long (p ∷ pokes) all image left =
      let fits : p.0 + length p.1 ≤ length f = omega (arith, all.1, long) in
      ⊎_elim
      (λ pair. record { target = widened f p.0 p.1 fits all.0 all.1 (file_at image (settings_text side)) pair.target; beside = pair.beside })
      (λ later.
      let rest = pokes_pair (then_synced w (Poke (settings_text side) p.0 p.1)) side (poked_bytes f p.0 p.1) other (poke_holds w side f other h p.0 p.1)
      (omega (arith, long, length_poked f p.0 p.1 fits)) pokes all.2 image later in
      record { target = behind_poke f p.0 p.1 fits all.0 all.1 (file_at image (settings_text side)) rest.target; beside = rest.beside })
      (poke_pair w side f other h p.0 p.1 fits (synced (pokes_of side pokes)) image left)
