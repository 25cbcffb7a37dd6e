mod Sizes
mod LayerOrder
mod Priority
mod Groups
