-- The head of a record: its numbers, some of them written last, and its GTID.
use Rattle.std.proofs.Common.{◌≡◌, ◌<◌, ◌≤◌, ◌+◌, ◌^◌, ℕ, List, [], ◌∷◌, ◌++◌, length, drop, refl, sym, ap, subst, ◌∙◌, arith}
use Rattle.std.specs.List.{sum_by}
use Rattle.std.proofs.lemmas.List.{length-append}
use Rattle.std.proofs.Math.Seq.{drop-append_seam}
use Rattle.byteorder.specs.Endian.{little_bytes}
use Rattle.events_frames.specs.Headers.{Header}
use Rattle.feed_transactions.specs.Changes.{EventChange, Committed}
use Rattle.changes_origins.specs.GtidJson.{IsGtidJson}
use Rattle.library_log.specs.RecordLayouts.{text_bytes, text_end, row_count, AreElements, AppendsElements, IsTextOf, IsRecord}
use Rattle.library_log.specs.RecordParts.{head_bytes, FitsHead, AppendsHead}
use Rattle.library_log.proofs.LayoutLemmas.{half_read, word_read, text_len, text_found, text_ends, appended_both, overwritten}

-- ---- numbers that are written last

pub counts_written : (one two three four rest : List ℕ) (begin len changes rows : ℕ) (h : Header) → one ≡ head_bytes 0 0 0 begin h ++ rest → two ≡ overwritten 8 (little_bytes 8 len) one → three ≡ overwritten 16 (little_bytes 8 changes) two → four ≡ overwritten 24 (little_bytes 8 rows) three
    → four ≡ head_bytes len changes rows begin h ++ rest
counts_written one two three four rest begin len changes rows h a b c d =
    let second : two ≡ head_bytes len 0 0 begin h ++ rest = b ∙ ap (overwritten 8 (little_bytes 8 len)) a in
    let third : three ≡ head_bytes len changes 0 begin h ++ rest = c ∙ ap (overwritten 16 (little_bytes 8 changes)) second in
    d ∙ ap (overwritten 24 (little_bytes 8 rows)) third

-- ---- the head is read

pub record_is : (len changes rows begin : ℕ) (t : Committed) (cs : List EventChange) (gtid json elements : List ℕ) → len < 2 ^ 64 → changes < 2 ^ 64 → rows < 2 ^ 64 → FitsHead begin t.commit → length gtid < 2 ^ 64
    → len ≡ length (head_bytes len changes rows begin t.commit ++ (text_bytes gtid ++ elements)) → changes ≡ length cs → rows ≡ sum_by (λ (c : EventChange). row_count c.content) cs → IsGtidJson t.gtid json → IsTextOf json gtid → AreElements cs elements
    → IsRecord begin t cs (head_bytes len changes rows begin t.commit ++ (text_bytes gtid ++ elements))
record_is len changes rows begin t cs gtid json elements small few some fits short len_is changes_are rows_are is_json is_text are =
    let h = t.commit in
    let rest = text_bytes gtid ++ elements in
    let from_flags = little_bytes 8 0 ++ rest in
    let from_server = little_bytes 4 h.server_id ++ from_flags in
    let from_time = little_bytes 4 h.timestamp ++ from_server in
    let from_position = little_bytes 4 h.log_pos ++ from_time in
    let from_begin = little_bytes 4 begin ++ from_position in
    let from_rows = little_bytes 8 rows ++ from_begin in
    let from_changes = little_bytes 8 changes ++ from_rows in
    let head = head_bytes len changes rows begin h in
    let bytes = head ++ rest in
    let before = head ++ text_bytes gtid in
    let after : length before ≡ text_end 56 bytes = length-append head (text_bytes gtid) ∙ ap (λ (n : ℕ). 56 + n) (text_len gtid) ∙ by_sum (length gtid) ∙ sym (text_ends head gtid elements short) in
    let elements_are : drop (text_end 56 bytes) bytes ≡ elements = sym (ap (λ (n : ℕ). drop n bytes) after) ∙ drop-append_seam before elements in
    record {
      version = refl;
      head_len = refl;
      len = word_read len from_changes small ∙ len_is;
      changes_are = word_read changes from_rows few ∙ changes_are;
      rows_are = word_read rows from_begin some ∙ rows_are;
      begin_is = half_read begin from_position fits.0;
      position = half_read h.log_pos from_time fits.1;
      time = half_read h.timestamp from_server fits.2;
      server_id = half_read h.server_id from_flags fits.3;
      flags = refl;
      gtid = (json, is_json, subst (IsTextOf json) (sym (text_found head gtid elements short)) is_text);
      elements = subst (AreElements cs) (sym elements_are) are;
    }
  where
    by_sum : (n : ℕ) → 56 + (8 + n) ≡ 56 + 8 + n
    by_sum n = omega arith

head_len_same : (len changes rows begin : ℕ) (h : Header) (rest : List ℕ) → length (head_bytes len changes rows begin h ++ rest) ≡ length (head_bytes 0 0 0 begin h ++ rest)
head_len_same len changes rows begin h rest = length-append (head_bytes len changes rows begin h) rest ∙ sym (length-append (head_bytes 0 0 0 begin h) rest)

-- the record is complete
pub record_made : (begin size changes rows : ℕ) (t : Committed) (cs : List EventChange) (old start now new : List ℕ) → old ≡ [] → AppendsHead begin t old start → AppendsElements cs start now → size ≡ length now → size < 2 ^ 64 → changes < 2 ^ 64 → rows < 2 ^ 64
    → changes ≡ length cs → rows ≡ sum_by (λ (c : EventChange). row_count c.content) cs → ((b : ℕ) (h : Header) (rest : List ℕ) → now ≡ head_bytes 0 0 0 b h ++ rest → new ≡ head_bytes size changes rows b h ++ rest) → IsRecord begin t cs new
record_made begin size changes rows t cs old start now new none head elements all small few some changes_are rows_are ends =
    let rest = text_bytes head.gtid ++ elements.bytes in
    let begun : start ≡ head_bytes 0 0 0 begin t.commit ++ text_bytes head.gtid = head.appended ∙ ap (λ (l : List ℕ). l ++ (head_bytes 0 0 0 begin t.commit ++ text_bytes head.gtid)) none in
    let is : now ≡ head_bytes 0 0 0 begin t.commit ++ rest = appended_both (head_bytes 0 0 0 begin t.commit) start now (text_bytes head.gtid) elements.bytes begun elements.appended in
    let len : size ≡ length (head_bytes size changes rows begin t.commit ++ rest) = all ∙ ap length is ∙ sym (head_len_same size changes rows begin t.commit rest) in
    subst (IsRecord begin t cs) (sym (ends begin t.commit rest is))
    (record_is size changes rows begin t cs head.gtid head.json elements.bytes small few some head.small head.short len changes_are rows_are head.is_json head.is_text elements.are)

-- ---- the numbers of the head are appended

-- the position at which the transaction begins, and what follows it
pub place_begun : (old a b c d new : List ℕ) (begin position time server : ℕ) (h : Header) → position ≡ h.log_pos → time ≡ h.timestamp → server ≡ h.server_id → a ≡ old ++ little_bytes 4 begin → b ≡ a ++ little_bytes 4 position → c ≡ b ++ little_bytes 4 time → d ≡ c ++ little_bytes 4 server → new ≡ d ++ little_bytes 8 0
    → new ≡ old ++ (little_bytes 4 begin ++ (little_bytes 4 h.log_pos ++ (little_bytes 4 h.timestamp ++ (little_bytes 4 h.server_id ++ little_bytes 8 0))))
place_begun old a b c d new begin position time server h position_is time_is server_is first second third fourth fifth =
    let positions : b ≡ a ++ little_bytes 4 h.log_pos = second ∙ ap (λ (n : ℕ). a ++ little_bytes 4 n) position_is in
    let times : c ≡ b ++ little_bytes 4 h.timestamp = third ∙ ap (λ (n : ℕ). b ++ little_bytes 4 n) time_is in
    let servers : d ≡ c ++ little_bytes 4 h.server_id = fourth ∙ ap (λ (n : ℕ). c ++ little_bytes 4 n) server_is in
    appended_both old a new (little_bytes 4 begin) (little_bytes 4 h.log_pos ++ (little_bytes 4 h.timestamp ++ (little_bytes 4 h.server_id ++ little_bytes 8 0))) first
    (appended_both a b new (little_bytes 4 h.log_pos) (little_bytes 4 h.timestamp ++ (little_bytes 4 h.server_id ++ little_bytes 8 0)) positions
    (appended_both b c new (little_bytes 4 h.timestamp) (little_bytes 4 h.server_id ++ little_bytes 8 0) times (appended_both c d new (little_bytes 4 h.server_id) (little_bytes 8 0) servers fifth)))

-- after the version, the length of the head, and zeros
pub head_begun : (old a b c d e new : List ℕ) (begin : ℕ) (h : Header) → a ≡ old ++ little_bytes 4 1 → b ≡ a ++ little_bytes 4 64 → c ≡ b ++ little_bytes 8 0 → d ≡ c ++ little_bytes 8 0 → e ≡ d ++ little_bytes 8 0
    → new ≡ e ++ (little_bytes 4 begin ++ (little_bytes 4 h.log_pos ++ (little_bytes 4 h.timestamp ++ (little_bytes 4 h.server_id ++ little_bytes 8 0)))) → new ≡ old ++ head_bytes 0 0 0 begin h
head_begun old a b c d e new begin h first second third fourth fifth last =
    let place = little_bytes 4 begin ++ (little_bytes 4 h.log_pos ++ (little_bytes 4 h.timestamp ++ (little_bytes 4 h.server_id ++ little_bytes 8 0))) in
    appended_both old a new (little_bytes 4 1) (little_bytes 4 64 ++ (little_bytes 8 0 ++ (little_bytes 8 0 ++ (little_bytes 8 0 ++ place)))) first
    (appended_both a b new (little_bytes 4 64) (little_bytes 8 0 ++ (little_bytes 8 0 ++ (little_bytes 8 0 ++ place))) second
    (appended_both b c new (little_bytes 8 0) (little_bytes 8 0 ++ (little_bytes 8 0 ++ place)) third
    (appended_both c d new (little_bytes 8 0) (little_bytes 8 0 ++ place) fourth (appended_both d e new (little_bytes 8 0) place fifth last))))
