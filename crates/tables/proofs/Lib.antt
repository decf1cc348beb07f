-- Layouts, kinds, labels, and examples of what the definitions give.
pub mod LayoutLaws
pub mod KindLaws
pub mod LabelLaws
pub mod ModelExamples
