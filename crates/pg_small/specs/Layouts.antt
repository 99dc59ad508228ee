-- What a layout stands for, kept in few bytes or on the heap.
use Rattle.std.specs.Prelude.{take}
use Rattle.pg_layouts.specs.declared.layout.Layout.{Layout}
use Rattle.pg_small.specs.declared.layouts.FewLayout.{FewLayout}
use Rattle.pg_small.specs.declared.layouts.KeptLayout.{KeptLayout}
use Rattle.pg_small.specs.declared.layouts.KeptLayout.TheVariants.{Few, Many}

-- the layout with its counts
abbrev pub few_layout : FewLayout → Layout
few_layout few = record {
  run = few.run;
  wide = take few.classes few.wide;
  top = take few.classes few.top;
  bottom = take few.classes few.bottom;
}

-- the layout
abbrev pub layout_kept : KeptLayout → Layout
layout_kept (Few few) = few_layout few
layout_kept (Many layout) = layout.value
