-- Lists of records, one longer.
use Rattle.std.proofs.Common.{◌≡◌, suc, List, [], ◌∷◌, ◌++◌, length, map, refl, ap, ◌∙◌, subst}
use Rattle.std.proofs.lemmas.List.{map-append}
use Rattle.attrs.specs.History.{Content, after}
use Rattle.attrs.specs.Table.{Shows, route_in}
use Rattle.attrs.specs.declared.journal.JEntry.{JEntry}
use Rattle.attrs.specs.declared.route.Change.{Change}
use Rattle.attrs.specs.declared.route.Row.{Row}
use Rattle.attrs.proofs.Histories.{after-append}
use Rattle.jour_rule.specs.declared.views.Entry.{Entry}
use Rattle.table_shared.specs.Opening.{TableOpening}
use Rattle.table_shared.specs.Records.{AreRecords, IsRecord, at_first, change_of, content_after}

-- the content behind two lists of changes is that behind the second, from that behind the first
pub after_both : (start : Content) (first later : List Change) → after start (first ++ later) ≡ after (after start first) later
after_both start first later = λ i net num. after-append start first later net num i

-- the content behind one record more
pub content_more : (opening : TableOpening) (said : List JEntry) (next : JEntry) → content_after opening (said ++ next ∷ []) ≡ after (content_after opening said) (change_of next ∷ [])
content_more opening said next =
    ap (after (at_first opening)) (map-append change_of said (next ∷ [])) ∙ after_both (at_first opening) (map change_of said) (change_of next ∷ [])

-- one entry and one record more
pub records_more :
    (opening : TableOpening) (before : Content) (entries : List Entry) (said : List JEntry) (entry : Entry) (next : JEntry) → AreRecords opening before entries said
    → IsRecord opening (after before (map change_of said)) entry next → AreRecords opening before (entries ++ entry ∷ []) (said ++ next ∷ [])
records_more opening before [] [] entry next are is = (is, tt)
records_more opening before [] (s ∷ ss) entry next are is = absurd are
records_more opening before (e ∷ es) [] entry next are is = absurd are
records_more opening before (e ∷ es) (s ∷ ss) entry next are is = (
  are.0,
  records_more opening (after before (change_of s ∷ [])) es ss entry next are.1
      (subst (λ (content : Content). IsRecord opening content entry next) (after_both before (change_of s ∷ []) (map change_of ss)) is),
)

-- rows that show a content are it
pub shown : (rows : List Row) (content : Content) → Shows rows content → route_in rows ≡ content
shown rows content shows = λ i net num. shows.routes_are net num i

-- there are as many records as entries
pub as_many : (opening : TableOpening) (before : Content) (entries : List Entry) (said : List JEntry) → AreRecords opening before entries said → length entries ≡ length said
as_many opening before [] [] are = refl
as_many opening before [] (s ∷ ss) are = absurd are
as_many opening before (e ∷ es) [] are = absurd are
as_many opening before (e ∷ es) (s ∷ ss) are = ap suc (as_many opening (after before (change_of s ∷ [])) es ss are.1)
