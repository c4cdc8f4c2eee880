-- The values of the option --schema: a file, and where its schema begins. Times are those of the option --time-zone's zone; positions are those of MySQL's statement SHOW BINLOG EVENTS.
use Rattle.std.specs.Prelude.{◌≡◌, ◌<◌, ◌^◌, ℕ, Bool, true, false, List, [], ◌∷◌, ◌++◌, map, nat_lt, ⊤, Option, Some, None, option_map, SomeIff, if◌then◌else◌}
use Rattle.std.specs.List.{list_any}
use Rattle.std.specs.Path.{rsplit_once}
use Rattle.std.specs.Str.Parse.{IsNumeral, digits_value, without_leading_plus}
use denote.Bor.{Bor}
use Rattle.changes_commands.specs.TimeZones.{IsSecondsOf}
use Rattle.changes_commands.specs.declared.time_zone.Zone.{Zone}
use Rattle.changes_commands.specs.declared.refused.Unusable.{Unusable}
use Rattle.changes_commands.specs.declared.refused.Unusable.TheVariants as unusable
use Rattle.changes_commands.specs.declared.schema_options.SchemaBeginning.{SchemaBeginning}
use Rattle.changes_commands.specs.declared.schema_options.SchemaBeginning.TheVariants.{First, Time, Position}
use Rattle.changes_commands.specs.declared.schema_options.SchemaFile.{SchemaFile}

-- where a schema begins: before all events, with those of a time, in seconds since 1970, or after a position of a log with this name
pub data Beginning : Type 0 where
  first : Beginning
  time : ℕ → Beginning
  position : List ℕ → ℕ → Beginning

-- the same as the program keeps it
abbrev pub beginning_view : SchemaBeginning → Beginning
beginning_view First = first
beginning_view (Time seconds) = time seconds
beginning_view (Position log at) = position log.now at

-- a file by its path
pub record File : Type 0 where
  pub path : List ℕ
  pub beginning : Beginning

-- the same as the program keeps it
abbrev pub file_view : SchemaFile → File
file_view f = record { path = f.path.now; beginning = beginning_view f.beginning }

-- a position of 32 bits, in decimal
abbrev pub IsPosition : List ℕ → Option ℕ → Type 0
IsPosition text r = SomeIff r (IsNumeral 10 (without_leading_plus text) × (digits_value 10 (without_leading_plus text) < 2 ^ 32)) (digits_value 10 (without_leading_plus text))

-- what a text is before its last colon, the name of a log, and after it, a position
abbrev pub IsPlaceBy : Option (List ℕ × List ℕ) → Option Beginning → Type 0
IsPlaceBy None r = r ≡ None
IsPlaceBy (Some parts) r = (at : Option ℕ) × IsPosition parts.1 at × (r ≡ option_map (λ p. position parts.0 p) at)

-- the place that a text is
abbrev pub IsPlace : List ℕ → Option Beginning → Type 0
IsPlace text r = IsPlaceBy (rsplit_once 58 text) r

-- a time of 32 bits, as those of events
abbrev pub time_in : ℕ → Option Beginning
time_in seconds = if nat_lt seconds 4294967296 then Some (time seconds) else None

-- the time that a text is, or else the place
abbrev pub IsBeginningBy : List ℕ → Option ℕ → Option Beginning → Type 0
IsBeginningBy text (Some seconds) r = r ≡ time_in seconds
IsBeginningBy text None r = IsPlace text r

-- the same by the time that it is in a zone, if it is one
abbrev pub IsBeginning : Zone → List ℕ → Option Beginning → Type 0
IsBeginning zone text r = (seconds : Option ℕ) × IsSecondsOf zone text seconds × IsBeginningBy text seconds r

-- the file with this path; all of the word is its path, if it begins nowhere else
abbrev pub file_by : List ℕ → List ℕ → Option Beginning → File
file_by word path (Some beginning) = record { path = path; beginning = beginning }
file_by word path None = record { path = word; beginning = first }

-- a word, by what is before its last `@`, a path, and after it
abbrev pub IsFileBy : Zone → List ℕ → Option (List ℕ × List ℕ) → File → Type 0
IsFileBy zone word None f = f ≡ file_by word word None
IsFileBy zone word (Some parts) f = (beginning : Option Beginning) × IsBeginning zone parts.1 beginning × (f ≡ file_by word parts.0 beginning)

-- the file that a word names
abbrev pub IsFileOf : Zone → List ℕ → File → Type 0
IsFileOf zone word f = IsFileBy zone word (rsplit_once 64 word) f

-- the texts of words
abbrev pub texts : List (Bor (List ℕ)) → List (List ℕ)
texts words = map (λ w. w.now) words

-- the files that words name, each its own
pub data AreFiles (zone : Zone) : List (List ℕ) → List File → Type 0 where
  no_files : AreFiles zone [] []
  next_file : (word : List ℕ) (f : File) (words : List (List ℕ)) (fs : List File) → IsFileOf zone word f → AreFiles zone words fs → AreFiles zone (word ∷ words) (f ∷ fs)

-- whether a schema begins at a position of a log
abbrev pub is_position : Beginning → Bool
is_position (position log at) = true
is_position _ = false

-- the same of its file
abbrev pub is_placed : File → Bool
is_placed f = is_position f.beginning

-- the files that words name were added after others; where a server's answer is read, none begins at a position
pub record AddsFiles (zone : Zone) (is_answer : Bool) (words : List (List ℕ)) (old new : List File) : Type 0 where
  pub added : List File
  pub are : AreFiles zone words added
  pub after : new ≡ old ++ added
  pub places : is_answer ≡ true → list_any is_placed added ≡ false

-- a word among these names a file whose schema begins at a position
pub record HasPlace (zone : Zone) (words : List (List ℕ)) : Type 0 where
  pub before : List (List ℕ)
  pub word : List ℕ
  pub after : List (List ℕ)
  pub among : words ≡ before ++ word ∷ after
  pub file : File
  pub is : IsFileOf zone word file
  pub placed : is_placed file ≡ true

-- why files weren't added: a position where a server's answer is read, or memory ran out
abbrev pub IsWhyUnusable : Zone → Bool → List (List ℕ) → Unusable → Type 0
IsWhyUnusable zone is_answer words (unusable.Value option) = (is_answer ≡ true) × HasPlace zone words
IsWhyUnusable zone is_answer words unusable.Memory = ⊤
IsWhyUnusable zone is_answer words (unusable.OwnLines option) = ⊥
IsWhyUnusable zone is_answer words unusable.NoCommand = ⊥
