-- Ids that names of files say.
use Rattle.std.proofs.Common.{◌≡◌, ◌⊎◌, inl, inr, ◌<◌, ◌+◌, ℕ, List, [], ◌∷◌, ◌++◌, length, take, get_or, Option, None, Some, refl, sym, ◌∙◌, ap, subst}
use Rattle.std.specs.Prelude.{IfSome}
use Rattle.std.specs.List.{Contains}
use Rattle.std.proofs.lemmas.List.Concat.{flat_map-cons, flat_map-append}
use Rattle.std.proofs.lemmas.List.{take_more, append-nil}
use Rattle.std.proofs.lemmas.List.Elements.{Contains-append_left, Contains-append_right, Contains-append_cases}
use Rattle.ls_formats.specs.declared.parts.Parts.{Parts}
use Rattle.ls_formats.specs.PartNames.{PartOf, IsPartOf, part_name_text}
use Rattle.std.specs.Option.{option_map}
use Rattle.ls_sweep.specs.Files.{IsPartNamed}
use Rattle.ls_standing.proofs.ContainsLemmas.{none_in, at_first, first_or_behind}
use Rattle.ls_turn.specs.Agreeing.{files_of}
use Rattle.ls_placing.specs.Placing.{AreTakenIds, SaysId, SaysOne, id_list}

-- ---- one name

pub part_said : (n : List ℕ) (part : Option PartOf) → IsPartNamed n part → SaysOne n (option_map (λ (p : PartOf). p.id) part)
part_said n None none = record { said = λ name is spelled. absurd (none name is spelled); only = tt }
part_said n (Some p) named = record {
  said = λ name is spelled. ap (λ (q : PartOf). Some q.id) (sym (named.2 name is spelled));
  only = (p, named.0, named.1, refl);
}

-- ---- several

pub none_said : (ids : List ℕ) → AreTakenIds [] ids ids
none_said ids = record { each = λ id h. by id h; only = λ id h. inl h }
  where
    by : (id : ℕ) → Contains ids id ⊎ SaysId [] id → Contains ids id
    by id (inl h) = h
    by id (inr s) = absurd (none_in (part_name_text s.0) s.2)

says_more : (names : List (List ℕ)) (n : List ℕ) (id : ℕ) → SaysId names id → SaysId (names ++ n ∷ []) id
says_more names n id s = (s.0, s.1, Contains-append_left names (n ∷ []) (part_name_text s.0) s.2, s.3)

in_id : (id : Option ℕ) (m : ℕ) → Contains (id_list id) m → id ≡ Some m
in_id None m has = absurd (none_in m has)
in_id (Some k) m has = by (first_or_behind k [] m has)
  where
    by : (k ≡ m) ⊎ Contains [] m → Some k ≡ Some m
    by (inl same) = ap (λ (j : ℕ). Some j) same
    by (inr rest) = absurd (none_in m rest)

-- with one more name
module _ (names : List (List ℕ)) (ids taken : List ℕ) (n : List ℕ) (id : Option ℕ) (had : AreTakenIds names ids taken) (one : SaysOne n id) where
  of_last : (m : ℕ) (s : SaysId (names ++ n ∷ []) m) → Contains (n ∷ []) (part_name_text s.0) → Contains (id_list id) m
  of_last m s last = by (first_or_behind n [] (part_name_text s.0) last)
    where
      by : (n ≡ part_name_text s.0) ⊎ Contains [] (part_name_text s.0) → Contains (id_list id) m
      by (inl same) = subst (λ (o : Option ℕ). Contains (id_list o) m) (sym (one.said s.0 s.1 same ∙ ap (λ (k : ℕ). Some k) s.3)) (at_first m [])
      by (inr rest) = absurd (none_in (part_name_text s.0) rest)

  from_last : (m : ℕ) → id ≡ Some m → SaysId (names ++ n ∷ []) m
  from_last m is =
      let s = subst (λ (o : Option ℕ). IfSome o (λ id. (part : PartOf) × IsPartOf part × (n ≡ part_name_text part) × (part.id ≡ id))) is one.only in
      (s.0, s.1, Contains-append_right names (n ∷ []) (part_name_text s.0) (subst (λ (t : List ℕ). Contains (n ∷ []) t) s.2 (at_first n [])), s.3)

  into : (m : ℕ) → Contains ids m ⊎ SaysId (names ++ n ∷ []) m → Contains (taken ++ id_list id) m
  into m (inl h) = Contains-append_left taken (id_list id) m (had.each m (inl h))
  into m (inr s) = by (Contains-append_cases names (n ∷ []) (part_name_text s.0) s.2)
    where
      by : Contains names (part_name_text s.0) ⊎ Contains (n ∷ []) (part_name_text s.0) → Contains (taken ++ id_list id) m
      by (inl h) = Contains-append_left taken (id_list id) m (had.each m (inr (s.0, s.1, h, s.3)))
      by (inr last) = Contains-append_right taken (id_list id) m (of_last m s last)

  out : (m : ℕ) → Contains (taken ++ id_list id) m → Contains ids m ⊎ SaysId (names ++ n ∷ []) m
  out m h = by (Contains-append_cases taken (id_list id) m h)
    where
      more : Contains ids m ⊎ SaysId names m → Contains ids m ⊎ SaysId (names ++ n ∷ []) m
      more (inl h) = inl h
      more (inr s) = inr (says_more names n m s)

      by : Contains taken m ⊎ Contains (id_list id) m → Contains ids m ⊎ SaysId (names ++ n ∷ []) m
      by (inl k) = more (had.only m k)
      by (inr k) = inr (from_last m (in_id id m k))

  pub said_more : AreTakenIds (names ++ n ∷ []) ids (taken ++ id_list id)
  said_more = record { each = into; only = out }

-- the names of one after those of another
pub said_both : (xs ys : List (List ℕ)) (ids mid taken : List ℕ) → AreTakenIds xs ids mid → AreTakenIds ys mid taken → AreTakenIds (xs ++ ys) ids taken
said_both xs ys ids mid taken first second = record { each = into; only = out }
  where
    into : (m : ℕ) → Contains ids m ⊎ SaysId (xs ++ ys) m → Contains taken m
    into m (inl h) = second.each m (inl (first.each m (inl h)))
    into m (inr s) = by (Contains-append_cases xs ys (part_name_text s.0) s.2)
      where
        by : Contains xs (part_name_text s.0) ⊎ Contains ys (part_name_text s.0) → Contains taken m
        by (inl h) = second.each m (inl (first.each m (inr (s.0, s.1, h, s.3))))
        by (inr h) = second.each m (inr (s.0, s.1, h, s.3))

    out : (m : ℕ) → Contains taken m → Contains ids m ⊎ SaysId (xs ++ ys) m
    out m h = by (second.only m h)
      where
        left : Contains ids m ⊎ SaysId xs m → Contains ids m ⊎ SaysId (xs ++ ys) m
        left (inl k) = inl k
        left (inr s) = inr (s.0, s.1, Contains-append_left xs ys (part_name_text s.0) s.2, s.3)

        by : Contains mid m ⊎ SaysId ys m → Contains ids m ⊎ SaysId (xs ++ ys) m
        by (inl k) = left (first.only m k)
        by (inr s) = inr (s.0, s.1, Contains-append_right xs ys (part_name_text s.0) s.2, s.3)

-- ---- in a loop

pub said_next : (names : List (List ℕ)) (i : ℕ) (ids taken new : List ℕ) (n : List ℕ) (id : Option ℕ) → AreTakenIds (take i names) ids taken → i < length names
    → n ≡ get_or names i n → SaysOne n id → new ≡ taken ++ id_list id → AreTakenIds (take (i + 1) names) ids new
said_next names i ids taken new n id had within at one is =
    subst (λ (l : List ℕ). AreTakenIds (take (i + 1) names) ids l) (sym is)
    (subst (λ (l : List (List ℕ)). AreTakenIds l ids (taken ++ id_list id)) (ap (λ (m : List ℕ). take i names ++ m ∷ []) at ∙ sym (take_more names i n within))
    (said_more (take i names) ids taken n id had one))

pub files_next : (retired : List Parts) (i : ℕ) (ids taken new : List ℕ) (p : Parts) → AreTakenIds (files_of (take i retired)) ids taken → i < length retired
    → p ≡ get_or retired i p → AreTakenIds p.names taken new → AreTakenIds (files_of (take (i + 1) retired)) ids new
files_next retired i ids taken new p had within at one =
    let all : files_of (take (i + 1) retired) ≡ files_of (take i retired) ++ p.names =
    ap files_of (take_more retired i p within ∙ sym (ap (λ (q : Parts). take i retired ++ q ∷ []) at))
    ∙ (flat_map-append (λ (q : Parts). q.names) (take i retired) (p ∷ [])
    ∙ ap (λ (l : List (List ℕ)). files_of (take i retired) ++ l) (flat_map-cons (λ (q : Parts). q.names) p [] ∙ append-nil p.names)) in
    subst (λ (l : List (List ℕ)). AreTakenIds l ids new) (sym all) (said_both (files_of (take i retired)) p.names ids taken new had one)
