-- Reading a rows event in three parts: the column count is in the context of the third.
use Rattle.std.proofs.Common.{◌≡◌, ◌⊎◌, ◌∙◌, inl, inr, ℕ, List, refl, ap, sym, Option, Some, None}
use Rattle.wire_buf.specs.Encoding.{Begins, Reads, Lacks, ◌⨾◌, Alone, Both}
use Rattle.wire_buf.specs.Numbers.{IsLenenc}
use Rattle.wire_buf.specs.ReadErrors.{ParseFails}
use Rattle.rows_table_map.specs.TableMaps.{plain_bytes}
use Rattle.wire_buf.specs.declared.fault.WireFault.{WireFault}
use Rattle.wire_buf.specs.declared.fault.WireFault.TheVariants.{Eof, Memory}
use Rattle.wire_buf.proofs.EncodingLemmas.{Reads-led, Reads-both, Lacks-both, Lacks-both_first, Lacks-led_head, Lacks-led_tail}
use Rattle.wire_fields.specs.IntFaults.{lenenc_fault}
use Rattle.rows_event_body.specs.RowsEventFields.{OptionalFails}
use Rattle.rows_event_body.specs.RowsEvents.{RowsBody, IsRowsHead, IsRows, IsRowsEvent, IsMissing, RowsEventFails}
use Rattle.rows_event_body.specs.declared.rows_event_type.RowsEventType.{RowsEventType}
use Rattle.rows_event_body.specs.declared.rows_event_ctx.RowsEventCtx.{RowsEventCtx}

abbrev pub Prefix : Type 0
Prefix = ℕ × (ℕ × Option (List ℕ))

abbrev pub Rows : Type 0
Rows = Option (List ℕ) × (Option (List ℕ) × List ℕ)

abbrev pub Counted : Type 0
Counted = ℕ × Rows

abbrev pub parts : RowsBody → Prefix × Counted
parts r = ((r.table_id, (r.flags, r.extra)), (r.columns, (r.before, (r.after, r.rows_data))))

abbrev pub whole : RowsEventType → Prefix × Counted → RowsBody
whole t p = record {
  event_type = t;
  table_id = p.0.0;
  flags = p.0.1.0;
  extra = p.0.1.1;
  columns = p.1.0;
  before = p.1.1.0;
  after = p.1.1.1.0;
  rows_data = p.1.1.1.1;
}

module _ (ctx : RowsEventCtx) where
  abbrev IsCounted : Counted → List ℕ → List ℕ → Type 0
  IsCounted p = Alone IsLenenc p.0 ⨾ IsRows ctx.event_type p.0 p.1

  abbrev IsBody : Prefix × Counted → List ℕ → List ℕ → Type 0
  IsBody = Both (IsRowsHead ctx) IsCounted

  event_begins : (r : RowsBody) (x s : List ℕ) (t : Begins (IsRowsEvent ctx r) x s) → Begins (IsBody (parts r)) x s
  event_begins r x s t = record { bytes = t.bytes; joined = t.joined; is = t.is.1 }

  event_lacks : (x : List ℕ) → Lacks IsBody x → Lacks (IsRowsEvent ctx) x
  event_lacks x lacks r s t = lacks (parts r) s (event_begins r x s t)

  pub prefix_lacks : (x : List ℕ) → Lacks (IsRowsHead ctx) x → Lacks (IsRowsEvent ctx) x
  prefix_lacks x l = event_lacks x (Lacks-both_first (IsRowsHead ctx) IsCounted x l)

  pub count_lacks : (f : Prefix) (x m : List ℕ) → Reads (IsRowsHead ctx) f x m → Lacks (Alone IsLenenc) m → Lacks (IsRowsEvent ctx) x
  count_lacks f x m p l =
      let counted : Lacks IsCounted m = Lacks-led_head (λ (q : Counted). q.0) (λ (q : Counted). q.1) (λ (n : ℕ) (y : Rows). (n, y)) (λ q. refl) (Alone IsLenenc) (IsRows ctx.event_type) m l in
      event_lacks x (Lacks-both (IsRowsHead ctx) IsCounted f x m p counted)

  pub rows_lack : (f : Prefix) (n : ℕ) (x m k : List ℕ) → Reads (IsRowsHead ctx) f x m → Reads (Alone IsLenenc) n m k → Lacks (IsRows ctx.event_type n) k → Lacks (IsRowsEvent ctx) x
  rows_lack f n x m k p q l =
      let counted : Lacks IsCounted m = Lacks-led_tail (λ (q : Counted). q.0) (λ (q : Counted). q.1) (λ (n : ℕ) (y : Rows). (n, y)) (λ q. refl) (Alone IsLenenc) (IsRows ctx.event_type) n m k q l in
      event_lacks x (Lacks-both (IsRowsHead ctx) IsCounted f x m p counted)

  pub event_reads : (f : Prefix) (n : ℕ) (y : Rows) (x m k r : List ℕ) → Reads (IsRowsHead ctx) f x m → Reads (Alone IsLenenc) n m k → Reads (IsRows ctx.event_type n) y k r
      → Reads (IsRowsEvent ctx) (whole ctx.event_type (f, (n, y))) x r
  event_reads f n y x m k r p q v =
      let counted : Reads IsCounted (n, y) m r =
      Reads-led (λ (q : Counted). q.0) (λ (q : Counted). q.1) (λ (n : ℕ) (y : Rows). (n, y)) (λ q. refl) (Alone IsLenenc) (IsRows ctx.event_type) n y m k r q v (λ b rest h. refl) refl in
      let o = Reads-both (IsRowsHead ctx) IsCounted f (n, y) x m r p counted in
      record {
        begins = record { bytes = o.begins.bytes; joined = o.begins.joined; is = (refl, o.begins.is) };
        only = λ w s t.
            let e = o.only (parts w) s (event_begins w x s t) in
            (e.0, ap (whole ctx.event_type) e.1 ∙ ap (λ (a : RowsEventType). whole a (parts w)) (sym t.is.0));
      }

  -- which error is returned
  pub prefix_missing : (x : List ℕ) (e : WireFault) → IsMissing (IsRowsHead ctx) x e → RowsEventFails ctx x e
  prefix_missing x e h = inl h

  pub count_failed : (f : Prefix) (x m : List ℕ) (e : WireFault) → Reads (IsRowsHead ctx) f x m → Lacks (Alone IsLenenc) m × (e ≡ lenenc_fault m) → RowsEventFails ctx x e
  count_failed f x m e p h = inr (inl (record { value = f; after = m; begins = p.begins; holds = h }))

  pub rows_missing : (f : Prefix) (n : ℕ) (x m k : List ℕ) (e : WireFault) → Reads (IsRowsHead ctx) f x m → Reads (Alone IsLenenc) n m k → IsMissing (IsRows ctx.event_type n) k e → RowsEventFails ctx x e
  rows_missing f n x m k e p q h = inr (inr (record { value = f; after = m; begins = p.begins; holds = record { value = n; after = k; begins = q.begins; holds = h } }))

-- bytes are missing if the error is `Eof`
pub missing : {A : Type 0} (encoding : A → List ℕ → List ℕ → Type 0) (x : List ℕ) (e : WireFault) → e ≡ Eof → e ≡ Memory ⊎ Lacks encoding x → IsMissing encoding x e
missing encoding x e eof why = elim why as (λ _. IsMissing encoding x e) [ inl m ↦ absurd (cc (eof, m)) | inr l ↦ (l, eof) ]

-- the only error of extra data, and of column bits, is `Eof`
pub extra_fault : (ctx : Option (Unit {0})) (x : List ℕ) (e : WireFault) → OptionalFails (λ u. ParseFails None (λ y f. f ≡ Eof) (λ f. f ≡ Eof)) ctx x e → e ≡ Eof
extra_fault None x e why = absurd why
extra_fault (Some u) x e why = elim why as (λ _. e ≡ Eof) [ inl h ↦ h | inr s ↦ absurd s.0 ]

pub bits_fault : (ctx : Option ℕ) (x : List ℕ) (e : WireFault) → OptionalFails (λ n. ParseFails None (λ y f. Lacks (plain_bytes n) y × (f ≡ Eof)) (λ f. f ≡ Eof)) ctx x e → e ≡ Eof
bits_fault None x e why = absurd why
bits_fault (Some n) x e why = elim why as (λ _. e ≡ Eof) [ inl h ↦ h.1 | inr s ↦ absurd s.0 ]
