pub mod PatternForm
pub mod PriorityForm
pub mod ViewForm
pub mod ShapeForm
pub mod ConverterForm
pub mod ConverterRows
