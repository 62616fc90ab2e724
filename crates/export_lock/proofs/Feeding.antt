-- A part of a feed leaves what an export lock keeps, and what was sent of a net.
use Rattle.std.proofs.Common.{◌≡◌, ℕ, ◌+◌, ◌≤◌, arith, Bool, true, false, not, List, [], ◌∷◌, ◌++◌, length, map, take, drop, Option, Some, None, is_some, max, refl, sym, ap, subst, ◌∙◌, append-nil, length-append}
use Rattle.std.specs.Prelude.{◌&&◌, IsSome, reverse, slice_get, if◌then◌else◌}
use Rattle.std.proofs.Math.Path.{fun_ext}
use Rattle.std.proofs.lemmas.List.{take-append-drop}
use mathlib.Core.List.{IsPrefix}
use Rattle.atomic_table.specs.Seated.{TableId}
use Rattle.attrs.specs.History.{Content, after, content_at}
use Rattle.attrs.specs.Select.{rows_from}
use Rattle.attrs.specs.Table.{IsBestOf, Shows}
use Rattle.attrs.specs.declared.attributes.Attrs.{Attrs}
use Rattle.attrs.specs.declared.journal.Chunk.{Chunk}
use Rattle.attrs.specs.declared.journal.JEntry.{JEntry}
use Rattle.attrs.specs.declared.judge.Verdict.{Verdict}
use Rattle.attrs.specs.declared.route.Route.{Route}
use Rattle.attrs.specs.declared.route.Row.{Row}
use Rattle.bits_ip.specs.Address.{family_of}
use Rattle.bits_ip.specs.Prefix.{Net}
use Rattle.core_machine.specs.Signals.{without_sends}
use Rattle.export_core.specs.Calls.{Feeds}
use Rattle.export_core.specs.Candidates as ranges
use Rattle.export_core.specs.Candidates.{best_in}
use Rattle.export_core.specs.Histories.{TellsBest, change_of, course_of}
use Rattle.export_core.specs.Keys.{key_of}
use Rattle.export_core.specs.Logs.{Course, Follows, Rises, stretch}
use Rattle.export_core.specs.Passing.{value_by}
use Rattle.export_core.specs.Sends.{AreRight, AreRising, sends}
use Rattle.export_core.specs.Standing.{is_open}
use Rattle.export_core.specs.States.{IsChunkAt, StandsFor, State, feed_after, reach_of, value_for}
use Rattle.export_core.specs.declared.floors.FeedState.TheVariants.{From}
use Rattle.export_core.specs.declared.log.Key.{Key}
use Rattle.export_core.specs.declared.log.LogItem.{LogItem}
use Rattle.export_core.specs.declared.log.Sending.{Sending}
use Rattle.export_core.specs.declared.passing.ExportSpec.{ExportSpec}
use Rattle.export_core.proofs.SendLists.{last_is}
use Rattle.jour_rule.specs.Moves.{position_of}
use Rattle.jour_rule.specs.declared.views.Entry.{Entry}
use Rattle.jour_rule.specs.declared.views.View.{View as Seat}
use Rattle.jour.specs.Seats.{front, head_of, journal}
use Rattle.rec_words.specs.Entries.{Spells}
use Rattle.table_shared.specs.Opening.{TableOpening}
use Rattle.table_shared.specs.Records.{AreRecords, IsLawful, at_first}
use Rattle.table_shared.specs.Views.{IsChunk}
use Rattle.table_shared.proofs.Histories.{same_records}
use Rattle.table_shared.proofs.Records.{as_many}
use Rattle.export_lock.specs.Feeds.{AreOfBest, FeedsPart, goes_on, is_feeding}
use Rattle.export_lock.specs.Kept.{IsExporting, IsExports, IsRead}
use Rattle.export_lock.specs.Terms.{BeginsWith, ExportTerms}
use Rattle.export_lock.specs.declared.state.ExportState.{ExportState}
use Rattle.export_lock.proofs.Chunks.{best_family, is_chunk, same_best}
use Rattle.export_lock.proofs.Histories.{begins_shorter, begins_within}
use Rattle.export_lock.proofs.Told.{AllTell, head_told}

there : {X : Type 0} (o : Option X) → is_some o ≡ true → (x : X) × (o ≡ Some x)
there None is = absurd (let bad : false ≡ true = is in cc)
there (Some x) is = (x, refl)

all_tell : (opening : TableOpening) (content : Content) (es : List Entry) (said : List JEntry) → AreRecords opening content es said → AllTell content said
all_tell opening content es [] are = tt
all_tell opening content [] (s ∷ said) are = absurd are
all_tell opening content (e ∷ es) (s ∷ said) are = (are.0.best, all_tell opening (after content (change_of s ∷ [])) es said are.1)

-- how long the shortest history is
shortest_long : (key : ExportTerms) (es : List Entry) (said : List JEntry) → key.table.1.start ≡ length key.before → AreRecords key.table.1.opening (at_first key.table.1.opening) es said → length (key.before ++ said) ≡ key.table.1.start + length es
shortest_long key es said start are =
    let count = as_many key.table.1.opening (at_first key.table.1.opening) es said are in
    let whole = length-append key.before said in
    omega (arith, start, count, whole)

module _ {J : Type 0} (verdict : J → Net → Route → Verdict) {every : Bool} (key : ExportTerms) (a : ExportState J) (e : State J) (cursor : (TableId × Seat TableOpening) × Bool) where
  -- nothing was read
  pub fed_still : e ≡ a.exporter → cursor ≡ a.cursor → IsExporting verdict every key a → IsExporting verdict every key (record { exporter = e; cursor = cursor; marks = a.marks })
  fed_still same at o = subst (λ (x : State J). IsExporting verdict every key (record { exporter = x; cursor = cursor; marks = a.marks })) (sym same)
      (subst (λ (x : (TableId × Seat TableOpening) × Bool). IsExporting verdict every key (record { exporter = a.exporter; cursor = x; marks = a.marks })) (sym at) o)

  -- the cursor is started still
  pub feeding_on : cursor.1 ≡ true → IsExporting verdict every key (record { exporter = e; cursor = (cursor.0, true); marks = a.marks }) → IsExporting verdict every key (record { exporter = e; cursor = cursor; marks = a.marks })
  feeding_on started o = subst (λ (b : Bool). IsExporting verdict every key (record { exporter = e; cursor = (cursor.0, b); marks = a.marks })) (sym started) o

-- whether the feed goes on
pub feeding_more : {J : Type 0} (e : State J) (cursor : (TableId × Seat TableOpening) × Bool) (marks : TableId × Seat ℕ) (chunk : Chunk) → cursor.1 ≡ true → e.flushing ≡ false → e.feed ≡ feed_after chunk.upto → is_feeding (record { exporter = e; cursor = cursor; marks = marks }) ≡ is_some chunk.upto
feeding_more e cursor marks chunk started rest feed = ap (λ (b : Bool). (b && not e.flushing) && goes_on e.feed) started ∙ ap (λ (b : Bool). not b && goes_on e.feed) rest ∙ ap goes_on feed ∙ by_end chunk.upto where
  by_end : (upto : Option Net) → goes_on (feed_after upto) ≡ is_some upto
  by_end None = refl
  by_end (Some next) = refl

module _ {J : Type 0} (verdict : J → Net → Route → Verdict) where
  -- how far keys were read
  pub keys_are_read : {every : Bool} (key : ExportTerms) (a : ExportState J) → IsExporting verdict every key a → a.exporter.flushing ≡ false → IsLawful key.table.1.opening (front a.cursor.0.1) → is_open a.exporter.log ≡ true → (k : Key) → IsRead a k
  keys_are_read {every} key a o rest lawful up k =
      let history : List JEntry = key.before ++ lawful.0 in
      let b : BeginsWith key (front a.cursor.0.1) history = record { said = lawful.0; records = lawful.1; begins = ([], append-nil history) } in
      let h = there (stretch (reverse a.exporter.log)) up in
      let lane = (o.stands history b).lanes rest h.0 h.1 k in
      record {
        seen =
            let within = lane.within in
            let long = shortest_long key (front a.cursor.0.1) lawful.0 o.start lawful.1 in
            let start = ap (λ z. z.1.start) o.here in
            omega (arith, within, long, start);
        sent = lane.after;
      }

module _ (rows_tell : (spec : ExportSpec) (history : List JEntry) (rows : List Row) (p : ℕ) (k : Key) → (spec.every ≡ false → TellsBest history) → Shows rows (content_at p (map change_of history)) → (course_of spec history).best k p ≡ best_in spec k rows)
    (one : (words : List ℕ) (a b : JEntry) → Spells a words → Spells b words → a ≡ b) where
  module _ {J : Type 0} (verdict : J → Net → Route → Verdict) {every : Bool} (key : ExportTerms) (a : ExportState J) (o : IsExporting verdict every key a) (cursor : TableId × Seat TableOpening) (here : journal cursor ≡ journal a.cursor.0) (prefix : IsPrefix (front a.cursor.0.1) (front cursor.1))
      (from : Option Net) (most : ℕ) (chunk : Chunk) (is : IsChunk from most a.cursor.0.1 cursor.1 chunk) where
    opened : cursor.1.seen.terms.opening ≡ key.table.1.opening
    opened = ap (λ z. z.1.opening) (here ∙ o.here)

    begins_here : cursor.1.seen.terms.start ≡ key.table.1.start
    begins_here = ap (λ z. z.1.start) (here ∙ o.here)

    cut : take most (rows_from from is.all) ++ drop most (rows_from from is.all) ≡ rows_from from is.all
    cut = take-append-drop most (rows_from from is.all)

    pub range : (spec : ExportSpec) → ranges.IsChunk spec chunk
    range spec = is_chunk spec from is.all (take most (rows_from from is.all)) (drop most (rows_from from is.all)) chunk is.shows.2.rows_are cut is.begins is.rows is.ends

    pub nets_family : (spec : ExportSpec) (k : Key) → IsSome (best_in spec k chunk.rows) → family_of k.net.addr ≡ key.table.1.opening.family
    nets_family spec k some = best_family spec k cursor.1.seen.terms.opening.family chunk.rows is.family some ∙ ap (λ z. z.family) opened

    pub head_later : head_of a.cursor.0.1 ≤ chunk.at
    head_later =
        let long = length-append (front a.cursor.0.1) prefix.0 in
        let whole = ap length prefix.1 in
        let start = ap (λ z. z.1.start) here in
        let seen = is.told.seen in
        omega (arith, long, whole, start, seen)

    -- the chunk is of each history that begins with what the cursor has seen then
    chunk_at : (history : List JEntry) → BeginsWith key (front cursor.1) history → IsChunkAt key.exports.spec (course_of key.exports.spec history) chunk
    chunk_at history b =
        let spec : ExportSpec = key.exports.spec in
        let opening : TableOpening = key.table.1.opening in
        let told : AreRecords opening (at_first opening) (front cursor.1) is.shows.0 = subst (λ (z : TableOpening). AreRecords z (at_first z) (front cursor.1) is.shows.0) opened is.shows.1 in
        let same : is.shows.0 ≡ b.said = same_records one opening (at_first opening) (front cursor.1) is.shows.0 b.said told b.records in
        let shows : Shows is.all (after (at_first opening) (map change_of b.said)) =
        subst (λ (z : TableOpening). Shows is.all (after (at_first z) (map change_of b.said))) opened
        (subst (λ (z : List JEntry). Shows is.all (after (at_first cursor.1.seen.terms.opening) (map change_of z))) same is.shows.2) in
        let long = shortest_long key (front cursor.1) b.said o.start b.records in
        let place : length (key.before ++ b.said) ≡ chunk.at = (let seen = is.told.seen in let start = begins_here in omega (arith, long, seen, start)) in
        record {
          told = let within = begins_within key (front cursor.1) history o.start b in let seen = is.told.seen in let start = begins_here in omega (arith, within, seen, start);
          best = λ k covered.
              subst (λ n. (course_of spec history).best k n ≡ best_in spec k chunk.rows) place
              (subst (λ h. (course_of spec h).best k (length (key.before ++ b.said)) ≡ best_in spec k chunk.rows) b.begins.1
              (head_told rows_tell spec key.before b.said b.begins.0 (at_first opening) is.all k
              (fun_ext (λ net. fun_ext (λ num. o.begun.opening net num))) o.begun.told
              (all_tell opening (at_first opening) (front cursor.1) b.said b.records) shows
              ∙ same_best spec from is.all (take most (rows_from from is.all)) (drop most (rows_from from is.all)) chunk is.shows.2.rows_are cut is.begins is.rows is.ends k covered));
        }

    pub fed_on : (e : State J) → is_open a.exporter.log ≡ true → Feeds chunk a.exporter e → ((c : Course) → IsChunkAt a.exporter.spec c chunk → StandsFor verdict c a.exporter → StandsFor verdict c e)
        → position_of cursor.1.role ≡ position_of a.cursor.0.1.role → a.cursor.1 ≡ true → IsExporting verdict every key (record { exporter = e; cursor = (cursor, true); marks = a.marks })
    fed_on e up f stands role started = record {
      spec = f.spec ∙ o.spec;
      filter = ap verdict f.judge ∙ o.filter;
      kind = o.kind;
      stays = λ e. f.flushing ∙ o.stays e;
      here = here ∙ o.here;
      start = o.start;
      family = o.family;
      begun = o.begun;
      marks = o.marks;
      makers = o.makers;
      cursors = o.cursors;
      marked = ap (λ z. without_sends (reverse z)) f.log ∙ o.marked;
      log = (o.log.0, o.log.1 ∙ ap (λ z. reverse z) (sym f.log));
      mode = sym up ∙ ap is_open (sym f.log);
      position = λ is. f.position ∙ o.position up ∙ sym role;
      least = λ is. subst (λ z. key.table.1.start ≤ z) (sym f.position) (o.least up);
      stands = λ history b. stands (course_of key.exports.spec history)
          (subst (λ z. IsChunkAt z (course_of key.exports.spec history) chunk) (sym o.spec) (chunk_at history b))
          (o.stands history (begins_shorter key (front a.cursor.0.1) (front cursor.1) history prefix b));
    }

    pub part_of : (e : State J) (started : Bool) → a.exporter.flushing ≡ false → IsLawful key.table.1.opening (front a.cursor.0.1) → is_open a.exporter.log ≡ true → a.exporter.feed ≡ From from → Feeds chunk a.exporter e → FeedsPart most a (record { exporter = e; cursor = (cursor, started); marks = a.marks })
    part_of e started rest lawful up goes f = record {
      from = from;
      chunk = chunk;
      goes = goes;
      is = is;
      feeds = f;
      read = λ k covered.
          let r = keys_are_read verdict key a o rest lawful up k in
          let later = head_later in
          f.read k ∙ ap (λ (b : Bool). if b then max chunk.at (reach_of a.exporter k) else reach_of a.exporter k) covered ∙ top (reach_of a.exporter k) chunk.at (let seen = r.seen in omega (arith, seen, later));
      sent = λ k x last.
          let r = keys_are_read verdict key a o rest lawful up k in
          let later = head_later in
          let seen = r.seen in
          let at = r.sent x last in
          omega (arith, seen, later, at);
    } where
      top : (n m : ℕ) → n ≤ m → max m n ≡ m
      top n m le = omega (arith, le)

-- ---- what was sent of a net

module _ (value : Key → Route → Option Attrs) (spec : ExportSpec) (history : List JEntry) (net : Net) (h read : ℕ) (best : (p : ℕ) → IsBestOf (content_at p (map change_of history)) net ((course_of spec history).best (key_of net) p)) where
  earlier_at : (o : Option Sending) (x : Sending) → Rises o x → x.at ≤ read → (y : Sending) → o ≡ Some y → y.at ≤ read
  earlier_at None x rises at y e = absurd (let no : None ≡ Some y = e in cc)
  earlier_at (Some z) x rises at y e = subst (λ (s : Sending). s.at ≤ read) (let same : z ≡ y = (let is : Some z ≡ Some y = e in cc) in same) (let low = rises.0 in omega (arith, low, at))

  of_best : (xs : List Sending) → AreRight value (course_of spec history) (key_of net) h xs → AreRising xs → ((x : Sending) → slice_get xs 0 ≡ Some x → x.at ≤ read) → AreOfBest value history net h read xs
  of_best [] right rising first = tt
  of_best (x ∷ xs) right rising first = (
    ((course_of spec history).best (key_of net) x.at, best x.at, right.0),
    right.1,
    first x refl,
    of_best xs right.3 rising.1 (earlier_at (slice_get xs 0) x rising.0 (first x refl)),
  )

pub sent_of_best : (tells : (spec : ExportSpec) (history : List JEntry) (net : Net) (p : ℕ) → spec.every ≡ false → TellsBest history → IsBestOf (content_at p (map change_of history)) net ((course_of spec history).best (key_of net) p))
    → (right : (value : Key → Route → Option Attrs) (c : Course) (k : Key) (h : ℕ) (log : List LogItem) → Follows value c log → stretch log ≡ Some h → AreRight value c k h (sends k log) × AreRising (sends k log))
    → {J : Type 0} (verdict : J → Net → Route → Verdict) (key : ExportTerms) (a : ExportState J) (history : List JEntry) (net : Net) (h : ℕ) → IsExports verdict key a → IsLawful key.table.1.opening (front a.cursor.0.1)
    → BeginsWith key (front a.cursor.0.1) history → TellsBest history → stretch (reverse a.exporter.log) ≡ Some h
    → AreOfBest (value_by key.exports.spec key.exports.filter) history net h (reach_of a.exporter (key_of net)) (sends (key_of net) (reverse a.exporter.log)) × AreRising (sends (key_of net) (reverse a.exporter.log))
sent_of_best tells right {J} verdict key a history net h o lawful b told is_open_at =
    let log : List LogItem = reverse a.exporter.log in
    let value : Key → Route → Option Attrs = value_by key.exports.spec key.exports.filter in
    let same : value_for verdict a.exporter ≡ value = ap (λ (s : ExportSpec). value_by s (verdict a.exporter.judge)) o.spec ∙ ap (value_by key.exports.spec) o.filter in
    let follows : Follows value (course_of key.exports.spec history) log = subst (λ (v : Key → Route → Option Attrs). Follows v (course_of key.exports.spec history) log) same (o.stands history b).follows in
    let are = right value (course_of key.exports.spec history) (key_of net) h log follows is_open_at in
    let read = keys_are_read verdict key a o (o.stays refl) lawful (ap is_some is_open_at) (key_of net) in (
      of_best value key.exports.spec history net h (reach_of a.exporter (key_of net)) (λ p. tells key.exports.spec history net p o.kind told) (sends (key_of net) log) are.0 are.1
          (λ x first. read.sent x (last_is (key_of net) log ∙ first)),
      are.1,
    )
