-- What is read of a protector's files.
use Rattle.std.proofs.Common.{◌≡◌, Bool, List, ℕ, Option, Some, sym, ap, subst, ◌∙◌}
use Rattle.std.specs.Prelude.{◌↔◌, not, is_some, bytes_eq, IsTrue, IsSomeAnd}
use Rattle.std.proofs.lemmas.Slice.Eq.{bytes_eq-Decides}
use Rattle.ls_credential.specs.declared.kind.Kind.{Kind}
use Rattle.ls_formats.specs.Contents.{Pwd, IsPwd, pwd_bytes, pwd_of}
use Rattle.ls_formats.proofs.ContentLemmas.{pwd_format}
use Rattle.ls_board.specs.Gatekeeper.{signed, salt_of}
use Rattle.ls_sealing.specs.Chain.{gatekeeper_password}
use Rattle.ls_sealing.specs.Seals.{IsPwdFile, IsHandleOf}

-- the one value that a `pwd` file spells is the one that is read of it
pub read_pwd : (file : List ℕ) (v : Pwd) → IsPwd v → pwd_bytes v ≡ file → v ≡ pwd_of file
read_pwd file v keeps spelled = sym (pwd_format.again v keeps) ∙ ap pwd_of spelled

pub is_pwd_file : (weaver : Bool) (kind : Kind) (file : List ℕ) (v : Pwd) → IsPwd v → pwd_bytes v ≡ file
    → v.kind ≡ kind → is_some v.handle ≡ not weaver → IsPwdFile weaver kind file
is_pwd_file weaver kind file v keeps spelled says handle =
    let same = read_pwd file v keeps spelled in
    record {
      spelled = ap pwd_bytes (sym same) ∙ spelled;
      rules = subst IsPwd same keeps;
      says = ap (λ (q : Pwd). q.kind) (sym same) ∙ says;
      handle = ap (λ (q : Pwd). is_some q.handle) (sym same) ∙ handle;
    }

-- a handle is compared with the one that is signed for the salt in it
pub same_handle : (device : List ℕ) (id : ℕ) (stretched : List ℕ) (o : Option (List ℕ)) (handle password : List ℕ) (salt : ℕ) (sealed : List ℕ) (b : Bool)
    → o ≡ Some handle → password ≡ gatekeeper_password stretched → salt ≡ salt_of handle → sealed ≡ signed device id salt password
    → b ≡ bytes_eq handle sealed → IsTrue b ↔ IsSomeAnd o (IsHandleOf device id stretched)
same_handle device id stretched o handle password salt sealed b is text at made eq =
    let whole : sealed ≡ signed device id (salt_of handle) (gatekeeper_password stretched) = made ∙ (λ i. signed device id (at i) (text i)) in
    let same = bytes_eq-Decides handle sealed in (
      λ h. subst (λ (x : Option (List ℕ)). IsSomeAnd x (IsHandleOf device id stretched)) (sym is) (same.0 (sym eq ∙ h) ∙ whole),
      λ h. eq ∙ same.1 (subst (λ (x : Option (List ℕ)). IsSomeAnd x (IsHandleOf device id stretched)) is h ∙ sym whole),
    )
