-- The contents of an owned event's body, by the event's type.
use Rattle.std.specs.Prelude.{◌≡◌, ◌≢◌, ℕ, Bool, true, false, length}
use Rattle.rows_constants.specs.EventTypes.{event_type_number}
use Rattle.rows_constants.specs.declared.event_type.EventType.{EventType}
use Rattle.events_frames.specs.Contexts.{Context}
use Rattle.events_frames.specs.Descriptions.{event_description_of}
use Rattle.events_frames.specs.EventParts.{Describes, DescribesNothing, describes}
use Rattle.events_frames.specs.declared.event_error.EventError.{EventError}
use Rattle.events_owned.specs.BodyFormats.{body_format_of}
use Rattle.events_owned.specs.DataReadings.{IsRead, IsReadError}
use Rattle.events_owned.specs.declared.event_data.EventData.{EventData}
use Rattle.events_owned.specs.declared.event_data.EventData.TheVariants.{FormatDescriptionEvent}
use Rattle.events_owned.specs.OwnedEvents.{OwnedEvent}

-- the context for reading the event's body
abbrev pub event_context : OwnedEvent → Context
event_context e = record { event_size = length e.parts.body; description = e.description; event_type = e.parts.header.event_type }

-- a number that no type has
abbrev pub IsUnknownType : ℕ → Type 0
IsUnknownType number = (kind : EventType) → event_type_number kind ≢ number

-- the number is that of this type, for which the fact holds
abbrev pub OfType : ℕ → (EventType → Type 0) → Type 0
OfType number fact = (kind : EventType) × (event_type_number kind ≡ number) × fact kind

-- a format description is read with its own footer, any other body in the format of its type
abbrev pub IsDataOf : Bool → OwnedEvent → EventData → Type 0
IsDataOf true e (FormatDescriptionEvent d) = Describes (event_description_of d) e.parts
IsDataOf true e other = ⊥
IsDataOf false e body = OfType e.parts.header.event_type (λ kind. IsRead e.description.lengths (body_format_of kind) body e.parts.body)

abbrev pub ReadsData : OwnedEvent → EventData → Type 0
ReadsData e body = IsDataOf (describes e.parts.header) e body

-- why the body can't be read
abbrev pub IsFaultOf : Bool → OwnedEvent → EventError → Type 0
IsFaultOf true e error = DescribesNothing e.parts error
IsFaultOf false e error = OfType e.parts.header.event_type (λ kind. IsReadError e.description.lengths (body_format_of kind) e.parts.body error)

abbrev pub IsDataFault : OwnedEvent → EventError → Type 0
IsDataFault e error = IsFaultOf (describes e.parts.header) e error
