-- The search of an UPDATE or DELETE of a core.
use Rattle.std.proofs.Common.{◌≡◌, ℕ, ◌+◌, ◌*◌, ◌≤◌, length, arith}
use Rattle.rv_judge.specs.Counting.{no_counts}
use Rattle.rv_search.specs.Searching.{search_of}
use Rattle.rv_join.specs.Asking.{indexes_from}
use Rattle.rv_cursor.specs.Left.{seen_at}
use Rattle.rv_bounded.specs.Changes.{ChangesAreBounded}
use Rattle.rv_bounded.proofs.Searches.{searches_bounded}

found_sum : (pages leaves records ran_pages ran_leaves ran_records p planned found : ℕ) → pages ≡ ran_pages → leaves ≡ ran_leaves → records ≤ ran_records + found → ran_pages + ran_leaves + ran_records ≤ 0 + 0 + 0 + 2 * p + 2 * planned + 48 → pages + leaves + records ≤ 2 * p + 2 * planned + 48 + found
found_sum pages leaves records ran_pages ran_leaves ran_records p planned found e f g h = omega (arith, e, f, g, h)

pub changes_bounded : ChangesAreBounded
changes_bounded u db session table count only reply old new own touches told writes narrows rule few long alone less =
    let searched = touches.1 count told own writes narrows in
    let indexes = indexes_from table 0 db.schema.indexes in
    let shown = seen_at u.store own.base searched.view in
    let ran = searched.ran.ran in
    let behind = searched.ran.counts in
    let bound = searches_bounded u.would old.judge new.judge shown no_counts behind (search_of table own.base only indexes) ran rule few long alone less in
    found_sum searched.counts.pages searched.counts.leaves searched.counts.records behind.pages behind.leaves behind.records (shown.pages table own.base) (length ran.begun.joint.plans) searched.found searched.ran.fetched.pages searched.ran.fetched.leaves searched.ran.fetched.records bound
