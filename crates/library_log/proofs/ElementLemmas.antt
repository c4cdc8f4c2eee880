-- The elements of a record: the head, whose length is written last, and the content.
use Rattle.std.proofs.Common.{◌≡◌, ◌<◌, ◌≤◌, ◌+◌, ◌-◌, ◌^◌, ℕ, Bool, true, List, [], ◌∷◌, ◌++◌, length, drop, nat_lt, refl, sym, ap, subst, ◌∙◌, append_assoc, arith}
use Rattle.std.proofs.lemmas.List.{append-nil, length-append}
use Rattle.byteorder.specs.Endian.{little_bytes}
use Rattle.events_frames.specs.Headers.{Header}
use Rattle.events_frames.specs.QueryTexts.{StatementTexts}
use Rattle.rows_table_map.specs.TableMaps.{TableMap}
use Rattle.rows_event_body.specs.RowsEvents.{RowsBody}
use Rattle.rows_event_body.specs.RowsEventTypes.{images_of}
use Rattle.rows_event_body.specs.declared.rows_event_type.RowImages.{RowImages}
use Rattle.rows_event_body.specs.declared.rows_event_type.RowImages.TheVariants.{After, Before, BeforeAndAfter, BeforeAndPartialAfter}
use Rattle.feed_transactions.specs.Changes.{OfRows, OfStatement}
use Rattle.library_log.specs.RecordLayouts.{text_bytes, text_at, text_end, kind_in, IsElement, is_change, rows_kind, row_count, AreElements, AppendsElements}
use Rattle.library_log.specs.RecordParts.{Appends, change_head, FitsChange}
use Rattle.library_log.proofs.LayoutLemmas.{half_read, word_read, text_len, text_found, text_ends, appended_both, overwritten, overwritten_after, one_change, one_other, appends_both}

content_len : (len n : ℕ) → len ≡ 8 + n → 24 + n ≡ 16 + len
content_len len n is = omega arith

-- an element whose content has this length
element_whole : (kind table len : ℕ) (h : Header) (rest : List ℕ) → len < 2 ^ 64 → len ≡ 8 + length rest → IsElement (change_head kind table len h ++ rest)
element_whole kind table len h rest small is =
    length-append (change_head kind table len h) rest ∙ content_len len (length rest) is ∙ ap (λ (n : ℕ). 16 + n) (sym (word_read len (little_bytes 4 h.timestamp ++ (little_bytes 4 h.log_pos ++ rest)) small))

-- the head of a change was appended, number by number
pub change_begun : (old a b c d new : List ℕ) (kind table time position : ℕ) (h : Header) → time ≡ h.timestamp → position ≡ h.log_pos → a ≡ old ++ little_bytes 4 kind → b ≡ a ++ little_bytes 4 table → c ≡ b ++ little_bytes 8 0 → d ≡ c ++ little_bytes 4 time → new ≡ d ++ little_bytes 4 position
    → new ≡ old ++ change_head kind table 0 h
change_begun old a b c d new kind table time position h time_is position_is first second third fourth fifth =
    let times : d ≡ c ++ little_bytes 4 h.timestamp = fourth ∙ ap (λ (n : ℕ). c ++ little_bytes 4 n) time_is in
    let positions : new ≡ d ++ little_bytes 4 h.log_pos = fifth ∙ ap (λ (n : ℕ). d ++ little_bytes 4 n) position_is in
    appended_both old a new (little_bytes 4 kind) (little_bytes 4 table ++ (little_bytes 8 0 ++ (little_bytes 4 h.timestamp ++ little_bytes 4 h.log_pos))) first
    (appended_both a b new (little_bytes 4 table) (little_bytes 8 0 ++ (little_bytes 4 h.timestamp ++ little_bytes 4 h.log_pos)) second
    (appended_both b c new (little_bytes 8 0) (little_bytes 4 h.timestamp ++ little_bytes 4 h.log_pos) third (appended_both c d new (little_bytes 4 h.timestamp) (little_bytes 4 h.log_pos) times positions)))

-- ---- a statement

texts_len : (s t : List ℕ) → length (text_bytes s ++ text_bytes t) ≡ 8 + length s + (8 + length t)
texts_len s t = length-append (text_bytes s) (text_bytes t) ∙ ap (λ (n : ℕ). n + length (text_bytes t)) (text_len s) ∙ ap (λ (n : ℕ). 8 + length s + n) (text_len t)

pub statement_element : (h : Header) (q : StatementTexts) (len : ℕ) → FitsChange h → length q.schema < 2 ^ 64 → length q.query < 2 ^ 64 → len < 2 ^ 64 → len ≡ 8 + length (text_bytes q.schema ++ text_bytes q.query)
    → AreElements (record { header = h; content = OfStatement q } ∷ []) (change_head 4 0 len h ++ (text_bytes q.schema ++ text_bytes q.query))
statement_element h q len fits short_schema short_query small is =
    let rest = text_bytes q.schema ++ text_bytes q.query in
    let e = change_head 4 0 len h ++ rest in
    let before = change_head 4 0 len h ++ text_bytes q.schema in
    let whole : before ++ (text_bytes q.query ++ []) ≡ e = ap (λ (l : List ℕ). before ++ l) (append-nil (text_bytes q.query)) in
    let offset : length before ≡ text_end 24 e = length-append (change_head 4 0 len h) (text_bytes q.schema) ∙ ap (λ (n : ℕ). 24 + n) (text_len q.schema) ∙ by_sum (length q.schema) ∙ sym (text_ends (change_head 4 0 len h) q.schema (text_bytes q.query) short_schema) in
    let query : text_at (length before) (before ++ (text_bytes q.query ++ [])) ≡ q.query = text_found before q.query [] short_query in
    let end : text_end (length before) (before ++ (text_bytes q.query ++ [])) ≡ length before + 8 + length q.query = text_ends before q.query [] short_query in
    one_change (record { header = h; content = OfStatement q }) e (element_whole 4 0 len h rest small is) refl (record {
      time = half_read h.timestamp (little_bytes 4 h.log_pos ++ rest) fits.0;
      position = half_read h.log_pos rest fits.1;
      content = record {
        kind = refl;
        table = refl;
        schema = text_found (change_head 4 0 len h) q.schema (text_bytes q.query) short_schema;
        query = sym (ap (λ (n : ℕ). text_at n e) offset) ∙ sym (ap (text_at (length before)) whole) ∙ query;
        end = sym (ap (λ (n : ℕ). text_end n e) offset) ∙ sym (ap (text_end (length before)) whole) ∙ end ∙ before_and (length before) (length q.query) ∙ ap (λ (n : ℕ). length before + n) (sym (text_len q.query)) ∙ sym (length-append before (text_bytes q.query));
      };
    })
  where
    by_sum : (n : ℕ) → 24 + (8 + n) ≡ 24 + 8 + n
    by_sum n = omega arith

    before_and : (m n : ℕ) → m + 8 + n ≡ m + (8 + n)
    before_and m n = omega arith

-- ---- rows

rows_are_changes : (i : RowImages) → nat_lt (rows_kind i) 5 ≡ true
rows_are_changes After = refl
rows_are_changes Before = refl
rows_are_changes BeforeAndAfter = refl
rows_are_changes BeforeAndPartialAfter = refl

rows_kind_fits : (i : RowImages) → rows_kind i < 2 ^ 32
rows_kind_fits After = omega arith
rows_kind_fits Before = omega arith
rows_kind_fits BeforeAndAfter = omega arith
rows_kind_fits BeforeAndPartialAfter = omega arith

pub rows_element : (h : Header) (m : TableMap) (r : RowsBody) (table len count : ℕ) (rows : List ℕ) → FitsChange h → count < 2 ^ 64 → len < 2 ^ 64 → len ≡ 8 + length (little_bytes 8 count ++ rows) → count ≡ row_count (OfRows m r)
    → AreElements (record { header = h; content = OfRows m r } ∷ []) (change_head (rows_kind (images_of r.event_type)) table len h ++ (little_bytes 8 count ++ rows))
rows_element h m r table len count rows fits few small is counted =
    let rest = little_bytes 8 count ++ rows in
    let kind = rows_kind (images_of r.event_type) in
    let e = change_head kind table len h ++ rest in
    let read : kind_in e ≡ kind = half_read kind (little_bytes 4 table ++ (little_bytes 8 len ++ (little_bytes 4 h.timestamp ++ (little_bytes 4 h.log_pos ++ rest)))) (rows_kind_fits (images_of r.event_type)) in
    one_change (record { header = h; content = OfRows m r }) e (element_whole kind table len h rest small is) (ap (λ (k : ℕ). nat_lt k 5) read ∙ rows_are_changes (images_of r.event_type)) (record {
      time = half_read h.timestamp (little_bytes 4 h.log_pos ++ rest) fits.0;
      position = half_read h.log_pos rest fits.1;
      content = record { kind = read; count = word_read count rows few ∙ counted };
    })

-- ---- a table

table_whole : (index : ℕ) (content : List ℕ) → length content < 2 ^ 64 → IsElement (little_bytes 4 5 ++ (little_bytes 4 index ++ text_bytes content))
table_whole index content small =
    length-append (little_bytes 4 5 ++ little_bytes 4 index) (text_bytes content) ∙ ap (λ (n : ℕ). 8 + n) (text_len content) ∙ both_heads (length content) ∙ ap (λ (n : ℕ). 16 + n) (sym (word_read (length content) content small))
  where
    both_heads : (n : ℕ) → 8 + (8 + n) ≡ 16 + n
    both_heads n = omega arith

pub table_appended : (old one two new : List ℕ) (index : ℕ) (content : List ℕ) → one ≡ old ++ little_bytes 4 5 → two ≡ one ++ little_bytes 4 index → new ≡ two ++ text_bytes content → length content < 2 ^ 64 → AppendsElements [] old new
table_appended old one two new index content a b c small = record {
  bytes = little_bytes 4 5 ++ (little_bytes 4 index ++ text_bytes content);
  appended = appended_both old one new (little_bytes 4 5) (little_bytes 4 index ++ text_bytes content) a (appended_both one two new (little_bytes 4 index) (text_bytes content) b c);
  are = one_other (little_bytes 4 5 ++ (little_bytes 4 index ++ text_bytes content)) (table_whole index content small) refl;
}

-- ---- lengths that are written last

-- the head of a change was appended, then more of its content, and then the length of its content was written
pub len_written : (old bytes new more : List ℕ) (kind table len : ℕ) (h : Header) → bytes ≡ old ++ (change_head kind table 0 h ++ more) → new ≡ overwritten (length old + 8) (little_bytes 8 len) bytes → new ≡ old ++ (change_head kind table len h ++ more)
len_written old bytes new more kind table len h is wrote =
    wrote ∙ ap (overwritten (length old + 8) (little_bytes 8 len)) is ∙ overwritten_after old (change_head kind table 0 h ++ more) (little_bytes 8 len) 8

-- so was the number of rows
pub count_written : (old bytes new rows : List ℕ) (kind table count : ℕ) (h : Header) → bytes ≡ old ++ (change_head kind table 0 h ++ (little_bytes 8 0 ++ rows)) → new ≡ overwritten (length old + 24) (little_bytes 8 count) bytes
    → new ≡ old ++ (change_head kind table 0 h ++ (little_bytes 8 count ++ rows))
count_written old bytes new rows kind table count h is wrote =
    wrote ∙ ap (overwritten (length old + 24) (little_bytes 8 count)) is ∙ overwritten_after old (change_head kind table 0 h ++ (little_bytes 8 0 ++ rows)) (little_bytes 8 count) 24

-- the length of a content whose head has 16 bytes
pub content_is : (old bytes more : List ℕ) (kind table : ℕ) (h : Header) → bytes ≡ old ++ (change_head kind table 0 h ++ more) → length bytes - (length old + 8 + 8) ≡ 8 + length more
content_is old bytes more kind table h is = rest_of (length bytes) (length old) (length more) (ap length is ∙ length-append old (change_head kind table 0 h ++ more) ∙ ap (λ (n : ℕ). length old + n) (length-append (change_head kind table 0 h) more))
  where
    rest_of : (m n k : ℕ) → m ≡ n + (24 + k) → m - (n + 8 + 8) ≡ 8 + k
    rest_of m n k e = omega arith

-- ---- changes that were appended

within : (m n : ℕ) → m < 2 ^ 64 → m - n < 2 ^ 64
within m n h = omega arith

-- a statement with these texts
pub statement_added : (old one two three new schema query : List ℕ) (start size : ℕ) (h : Header) (q : StatementTexts) → start ≡ length old → size ≡ length three → q.schema ≡ schema → q.query ≡ query → one ≡ old ++ change_head 4 0 0 h → two ≡ one ++ text_bytes schema → three ≡ two ++ text_bytes query
    → new ≡ overwritten (start + 8) (little_bytes 8 (size - (start + 8 + 8))) three → FitsChange h → length schema < 2 ^ 64 → length query < 2 ^ 64 → size < 2 ^ 64 → AppendsElements (record { header = h; content = OfStatement q } ∷ []) old new
statement_added old one two three new schema query start size h q at all schema_is query_is begun first second wrote fits short_schema short_query small =
    let texts = text_bytes q.schema ++ text_bytes q.query in
    let len = size - (length old + 8 + 8) in
    let with_schema : two ≡ one ++ text_bytes q.schema = first ∙ ap (λ (l : List ℕ). one ++ text_bytes l) (sym schema_is) in
    let with_query : three ≡ two ++ text_bytes q.query = second ∙ ap (λ (l : List ℕ). two ++ text_bytes l) (sym query_is) in
    let is : three ≡ old ++ (change_head 4 0 0 h ++ texts) = appended_both old one three (change_head 4 0 0 h) texts begun (appended_both one two three (text_bytes q.schema) (text_bytes q.query) with_schema with_query) in
    let content : len ≡ 8 + length texts = ap (λ (n : ℕ). n - (length old + 8 + 8)) all ∙ content_is old three texts 4 0 h is in
    let written : new ≡ overwritten (length old + 8) (little_bytes 8 len) three = wrote ∙ ap (λ (n : ℕ). overwritten (n + 8) (little_bytes 8 (size - (n + 8 + 8))) three) at in
    record {
      bytes = change_head 4 0 len h ++ texts;
      appended = len_written old three new texts 4 0 len h is written;
      are = statement_element h q len fits (subst (λ (l : List ℕ). length l < 2 ^ 64) (sym schema_is) short_schema) (subst (λ (l : List ℕ). length l < 2 ^ 64) (sym query_is) short_query) (within size (length old + 8 + 8) small) content;
    }

-- the rows of an event, after their table
pub rows_added : (old tabled one two three four new : List ℕ) (start size kind table count : ℕ) (h : Header) (m : TableMap) (r : RowsBody) → AppendsElements [] old tabled → start ≡ length tabled → size ≡ length four → kind ≡ rows_kind (images_of r.event_type) → one ≡ tabled ++ change_head kind table 0 h → two ≡ one ++ little_bytes 8 0
    → Appends two three → four ≡ overwritten (start + 24) (little_bytes 8 count) three → new ≡ overwritten (start + 8) (little_bytes 8 (size - (start + 8 + 8))) four → FitsChange h → count < 2 ^ 64 → size < 2 ^ 64 → count ≡ row_count (OfRows m r)
    → AppendsElements (record { header = h; content = OfRows m r } ∷ []) old new
rows_added old tabled one two three four new start size kind table count h m r tables at all kind_is begun zero rows counts wrote fits few small counted =
    let of_rows = rows_kind (images_of r.event_type) in
    let more = little_bytes 8 count ++ rows.bytes in
    let len = size - (length tabled + 8 + 8) in
    let head : one ≡ tabled ++ change_head of_rows table 0 h = begun ∙ ap (λ (k : ℕ). tabled ++ change_head k table 0 h) kind_is in
    let is : three ≡ tabled ++ (change_head of_rows table 0 h ++ (little_bytes 8 0 ++ rows.bytes)) = appended_both tabled one three (change_head of_rows table 0 h) (little_bytes 8 0 ++ rows.bytes) head (appended_both one two three (little_bytes 8 0) rows.bytes zero rows.appended) in
    let count_in : four ≡ overwritten (length tabled + 24) (little_bytes 8 count) three = counts ∙ ap (λ (n : ℕ). overwritten (n + 24) (little_bytes 8 count) three) at in
    let with_count : four ≡ tabled ++ (change_head of_rows table 0 h ++ more) = count_written tabled three four rows.bytes of_rows table count h is count_in in
    let content : len ≡ 8 + length more = ap (λ (n : ℕ). n - (length tabled + 8 + 8)) all ∙ content_is tabled four more of_rows table h with_count in
    let written : new ≡ overwritten (length tabled + 8) (little_bytes 8 len) four = wrote ∙ ap (λ (n : ℕ). overwritten (n + 8) (little_bytes 8 (size - (n + 8 + 8))) four) at in
    let added : AppendsElements (record { header = h; content = OfRows m r } ∷ []) tabled new = record {
      bytes = change_head of_rows table len h ++ more;
      appended = len_written tabled four new more of_rows table len h with_count written;
      are = rows_element h m r table len count rows.bytes fits few (within size (length tabled + 8 + 8) small) content counted;
    } in
    appends_both [] (record { header = h; content = OfRows m r } ∷ []) old tabled new tables added
