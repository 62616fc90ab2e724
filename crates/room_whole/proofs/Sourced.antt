-- Routes are of the sources of their changes.
use Rattle.std.proofs.Common.{List, [], ◌∷◌, ◌++◌, map, reverse, sym, subst}
use Rattle.std.proofs.lemmas.List.{reverse-append}
use Rattle.attrs.specs.History.{Content, after}
use Rattle.attrs.specs.declared.journal.JEntry.{JEntry}
use Rattle.attrs.specs.declared.route.Change.{Change}
use Rattle.jour_rule.specs.declared.views.Entry.{Entry}
use Rattle.table_shared.specs.Opening.{TableOpening}
use Rattle.table_shared.specs.Records.{AreRecords, change_of}
use Rattle.phase_ends.specs.Ends.{AreSourced}

pub sourced_both : (new old : List Change) → AreSourced new → AreSourced old → AreSourced (new ++ old)
sourced_both [] old are were = were
sourced_both (c ∷ new) old are were = (are.0, sourced_both new old are.1 were)

pub sourced_records : (opening : TableOpening) (content : Content) (es : List Entry) (said : List JEntry) → AreRecords opening content es said → AreSourced (reverse (map change_of said))
sourced_records opening content [] [] are = tt
sourced_records opening content [] (s ∷ said) are = absurd are
sourced_records opening content (e ∷ es) [] are = absurd are
sourced_records opening content (e ∷ es) (s ∷ said) are =
    subst AreSourced (sym (reverse-append (change_of s ∷ []) (map change_of said)))
    (sourced_both (reverse (map change_of said)) (change_of s ∷ []) (sourced_records opening (after content (change_of s ∷ [])) es said are.1) (are.0.route, tt))
