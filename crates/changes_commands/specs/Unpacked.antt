-- The log in a file that may be compressed: RFC 1952 (gzip), RFC 8878 (Zstandard).
use Rattle.std.specs.Prelude.{◌≡◌, ◌++◌, ◌∷◌, ℕ, Bool, true, List, [], Option, Some, take, nat_eq, if◌then◌else◌}
use Rattle.std.specs.List.{starts_with}
use Rattle.inflate.specs.Wrappings.{AppendsMembers}
use Rattle.zstd_decoder.specs.Frames.{AppendsFrames}
use Rattle.changes_commands.specs.declared.unpacking.Compression.{Compression}
use Rattle.changes_commands.specs.declared.unpacking.Compression.TheVariants.{Absent, Gzip, Zstandard}
use Rattle.changes_commands.specs.declared.unpacking.UnpackFault.{UnpackFault}
use Rattle.changes_commands.specs.declared.unpacking.UnpackFault.TheVariants as fault

-- how a file is compressed that begins so: a gzip file begins with 1f 8b, a Zstandard file with 28 b5 2f fd
abbrev pub compression_of : List ℕ → Compression
compression_of first =
    if starts_with nat_eq first (31 ∷ 139 ∷ []) then Gzip
    else if starts_with nat_eq first (40 ∷ 181 ∷ 47 ∷ 253 ∷ []) then Zstandard
    else Absent

-- how a file with these bytes is compressed
abbrev pub compression_in : List ℕ → Compression
compression_in file = compression_of (take 4 file)

-- the bytes of the log in a file that is compressed so
abbrev pub IsLogIn : Compression → List ℕ → List ℕ → Type 0
IsLogIn Absent file log = log ≡ file
IsLogIn Gzip file log = AppendsMembers file [] log
IsLogIn Zstandard file log = AppendsFrames file [] log

-- the first bytes of the log in a file were read; with those that are left to the reader they are the log
pub record Unpacks (file first : List ℕ) (left : Option (List ℕ)) : Type 0 where
  pub rest : List ℕ
  pub left_is : left ≡ Some rest
  pub is : IsLogIn (compression_in file) file (first ++ rest)

-- why a file can't be read: the reader failed, memory ran out, or its data is damaged, if it is compressed so
abbrev pub IsUnpackFault : Bool → List ℕ → UnpackFault → Type 0
IsUnpackFault failed file (fault.Gzip why) = compression_in file ≡ Gzip
IsUnpackFault failed file (fault.Zstandard why) = compression_in file ≡ Zstandard
IsUnpackFault failed file fault.Read = failed ≡ true
IsUnpackFault failed file fault.Memory = Unit {0}

-- ---- steps

-- the first four bytes of a file were taken, or all if it has fewer
pub record Begins (file first : List ℕ) (left : Option (List ℕ)) : Type 0 where
  pub rest : List ℕ
  pub left_is : left ≡ Some rest
  pub split : file ≡ first ++ rest
  pub is : first ≡ take 4 file

-- all that was left was appended
pub record TakesAll (left : List ℕ) (new : Option (List ℕ)) (before after : List ℕ) : Type 0 where
  pub none : new ≡ Some []
  pub appended : after ≡ before ++ left
