-- The chain of one user's `resume` file.
use Rattle.std.specs.Prelude.{ℕ, List, slice_index, Option, None, Some, Result, Ok, Err}
use Rattle.ls_secret.specs.Secrets.{SecretValue, secret_fault}
use Rattle.ls_secret.specs.declared.fault.SecretFault.{SecretFault}
use Rattle.ls_formats.specs.declared.part.FilePart.TheVariants.{SpBlob, Resume}
use Rattle.ls_sealing.specs.Chain.{opened_resume}
use Rattle.ls_chain.specs.declared.fault.Spot.{Spot}
use Rattle.ls_chain.specs.declared.resume_file.ResumeFile.{ResumeFile}
use Rattle.ls_chain.specs.Links.{spot, next_of, sound_file, Links}

-- the version is that of the blob of the user's credential
abbrev pub version_file : Links → List ℕ → Result ResumeFile Spot
version_file l file =
    next_of (sound_file SpBlob (l.files SpBlob))
    (λ blob. Ok (record { file = file; version = slice_index blob 0 }))

abbrev pub resume_files : Links → Result ResumeFile Spot
resume_files l = next_of (sound_file Resume (l.files Resume)) (version_file l)

-- the secret of a text
abbrev pub resumed_by : ℕ → List ℕ → Option SecretFault → Result SecretValue Spot
resumed_by version text None = Ok (record { version = version; sp = text })
resumed_by version text (Some fault) = Err (spot Resume 1)

abbrev pub resumed_in : ℕ → Option (List ℕ) → Result SecretValue Spot
resumed_in version None = Err (spot Resume 1)
resumed_in version (Some text) = resumed_by version text (secret_fault version text)

-- the outer layer opens by the key of alias 0, the inner one by the key that the cell held
abbrev pub resume_chain : Option (List ℕ) → List ℕ → ResumeFile → Result SecretValue Spot
resume_chain key once f = resumed_in f.version (opened_resume key once f.file)
