pub mod KeptFronts
